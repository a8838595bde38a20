use Rattle.memo_server.proofs.Played.{plays-look}
use Rattle.memo_server.proofs.shard.Shard.play_look.Goals as goal

pub returns-in-Ok : goal.returns-in-Ok
returns-in-Ok g c = record { plays = plays-look g.R.Recipe.fits g.R.Recipe.digest_of c.args.self.now c.look.new.self c.args.who c.args.run c.args.input c.in-Ok.answer c.in-Ok.ensures.answer }
