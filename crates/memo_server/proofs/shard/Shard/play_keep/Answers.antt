use Rattle.memo_server.specs.Views.{core_state}
use Rattle.memo_server.proofs.Played.{plays-keep, next-below}
use Rattle.memo_server.proofs.shard.Shard.play_keep.Goals as goal

pub keep-requires-clause-next : goal.keep-requires-clause-next
keep-requires-clause-next g c = next-below c.args.self.now.turns c.args.self.now.history (core_state c.args.self.now.live c.args.self.now.next) c.history.ensures.of c.history.ensures.replays c.requires.room

pub returns-in-Ok : goal.returns-in-Ok
returns-in-Ok g c = record { plays = plays-keep g.R.Recipe.fits g.R.Recipe.digest_of c.args.self.now c.keep.new.self c.args.who c.args.run c.args.input c.args.out c.in-Ok.answer c.in-Ok.ensures.answer }
