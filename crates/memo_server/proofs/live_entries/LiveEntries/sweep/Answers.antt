use Rattle.std.proofs.Common.{rules, ℕ, List, filter, not, ap, ◌∙◌}
use Rattle.indexmap.proofs.CallerLemmas.{filter-RetainsPairs}
use Rattle.memo_server.specs.Views.{LiveView, is_stale}
use Rattle.memo_server.proofs.live_entries.LiveEntries.sweep.Goals as goal

pub returns : goal.returns
returns g c = filter-RetainsPairs _ _ _ (λ k v b w h call. search rules) _ _ c.retain.ensures.filtered ∙ ap (filter (λ (e : List ℕ × LiveView _ _). not (is_stale c.args.horizon e.1))) c.self.view_is
