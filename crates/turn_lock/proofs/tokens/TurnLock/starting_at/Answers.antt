use Rattle.turn_lock.proofs.Shares.{starts}
use Rattle.std.proofs.Common.{rules, refl}
use Rattle.turn_lock.proofs.tokens.TurnLock.starting_at.Goals as goal

pub new-requires : goal.new-requires
new-requires g c = starts _ _ _ _ c.args.state _ _ refl (search rules) c.requires.state c.requires.start c.requires.callers.0 c.requires.callers.1
