use Rattle.std.proofs.Common.{ap, ◌∙◌}
use Rattle.memo_core.specs.Machine.{replayed}
use Rattle.memo_server.specs.Views.{core_state}
use Rattle.memo_server.proofs.OwnTurns.{may-release}
use Rattle.memo_server.proofs.shard.Shard.play_release.Goals as goal

pub release-requires : goal.release-requires
release-requires g c = may-release c.args.who c.args.id c.args.self.now.turns (core_state c.args.self.now.live c.args.self.now.next) (ap replayed c.history.ensures.of ∙ c.history.ensures.replays) c.requires.may
