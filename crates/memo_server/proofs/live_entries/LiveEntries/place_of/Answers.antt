use Rattle.std.proofs.Common.{rules, ◌≡◌, ℕ, ◌<◌, List, Some, length, slice_get, sym, subst}
use Rattle.std.proofs.lemmas.List.Sorted.{answers_always}
use Rattle.memo_server.specs.Views.{LiveView, HasRisingIds}
use Rattle.memo_server.proofs.Search.{place-found, none-missing}
use Rattle.memo_server.proofs.live_entries.LiveEntries.place_of.Goals as goal

pub unreachable-requires : goal.unreachable-requires
unreachable-requires g c =
    let live = c.requires.live in
    none-missing c.self.inside.map.entries c.in-Err.field-0 c.args.id live.0 live.1 live.2
    (subst (λ (es : List (List ℕ × LiveView _ _)). HasRisingIds es) (sym c.self.view_is) c.requires.rising)
    (c.in-Err.ensures.position (λ e. e.1.id) (answers_always _ _ _ (λ f a r q called. search rules)))
    (subst (λ (es : List (List ℕ × LiveView _ _)). slice_get es live.0 ≡ Some (live.1, live.2)) (sym c.self.view_is) live.3)
    live.4

pub returns : goal.returns
returns g c =
    let inside : c.in-Ok.place < length c.self.inside.map.entries = search rules in
    subst (λ (es : List (List ℕ × LiveView _ _)). (k : List ℕ) × (l : LiveView _ _) × (slice_get es c.in-Ok.place ≡ Some (k, l)) × (l.id ≡ c.args.id)) c.self.view_is
    (place-found c.self.inside.map.entries c.in-Ok.place c.args.id inside (c.in-Ok.ensures.position (λ e. e.1.id) (answers_always _ _ _ (λ f a r q called. search rules))))
