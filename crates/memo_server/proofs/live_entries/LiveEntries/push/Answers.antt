use Rattle.std.proofs.Common.{◌≡◌, ℕ, List, None, [], ◌∷◌, ◌++◌, ap, sym, subst, ◌∙◌}
use Rattle.memo_server.specs.Views.{LiveView, found}
use Rattle.memo_server.proofs.Places.{insert-new}
use Rattle.memo_server.proofs.live_entries.LiveEntries.push.Goals as goal

pub returns-in-Ok-clause-ok : goal.returns-in-Ok-clause-ok
returns-in-Ok-clause-ok g c = c.in-Ok.ensures.entries ∙ insert-new c.self.inside.map.entries c.args.digest c.args.entry (subst (λ (es : List (List ℕ × LiveView _ _)). found c.args.digest es ≡ None) (sym c.self.view_is) c.requires) ∙ ap (λ (es : List (List ℕ × LiveView _ _)). es ++ (c.args.digest, c.args.entry) ∷ []) c.self.view_is
