use Rattle.std.proofs.Common.{◌≡◌, subst}
use Rattle.memo_server.specs.Histories.{LogView, events}
use Rattle.memo_server.proofs.TurnLists.{events-turns}
use Rattle.memo_server.proofs.log.Log.events.Goals as goal

pub returns-clause-of : goal.returns-clause-of
returns-clause-of c = subst (λ (v : LogView). events v.turns ≡ v.history) c.self.view_is (events-turns c.self.inside.before c.self.inside.events.items c.self.inside.after.items c.self.invariant)
