use Rattle.std.proofs.Common.{◌≡◌, ℕ, List, Some, slice_get, ap, sym, ◌∙◌, subst}
use Rattle.memo_server.specs.Views.{LiveView, entry_of}
use Rattle.memo_server.proofs.Places.{if_ok}
use Rattle.memo_server.proofs.live_entries.LiveEntries.share.Goals as goal

pub returns-clause-same : goal.returns-clause-same
returns-clause-same g c =
    if_ok c.share.result c.share.ensures.same (λ s is. (c.in-Some.field-0-0.now, c.in-Some.entry.now, subst (λ (es : List (List ℕ × LiveView _ _)). slice_get es c.args.place ≡ Some (c.in-Some.field-0-0.now, c.in-Some.entry.now)) c.self.view_is (sym c.in-Some.ensures.entry), is ∙ ap entry_of c.entry.view_is))
