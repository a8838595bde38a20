use Rattle.std.proofs.Common.{ℕ, List, Some, sym, subst}
use Rattle.memo_server.specs.Views.{LiveView, Finds}
use Rattle.memo_server.proofs.Places.{finds-place}
use Rattle.memo_server.proofs.live_entries.LiveEntries.find.Goals as goal

pub returns : goal.returns
returns g c = subst (λ (es : List (List ℕ × LiveView _ _)). Finds c.args.digest.now es (Some c.in_ok-place.place)) c.self.view_is (finds-place c.args.digest.now c.self.inside.map.entries c.in_ok-place.place c.in_ok-place.field-0-1.now c.in_ok-place.field-0-2.now (sym c.in_ok-place.ensures.key) (sym c.in_ok-place.ensures.value) c.in_ok-place.ensures.entry)
