use Rattle.std.proofs.Common.{rules, Some}
use Rattle.turn_lock.proofs.Steps.{whole_list}
use Rattle.turn_lock.proofs.tokens.TurnLock.take.Goals as goal

pub exchange-requires : goal.exchange-requires
exchange-requires g c = let q = c.requires.1 in (search rules, (Some q.0, whole_list c.args.seat.now.me.1 _ q.1))
