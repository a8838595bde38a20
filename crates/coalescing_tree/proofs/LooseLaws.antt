-- Whether the last hold of a draft is loose, while merges are made.
use Rattle.std.proofs.Common.{◌≡◌, true, List, [], ◌∷◌, ◌++◌, sym, ap, ◌∙◌, ℕ}
use Rattle.pin_table.specs.Views.{CallerView}
use Rattle.pin_table.specs.Covers.{Got, IsLater}
use Rattle.pin_table.specs.OwnEvents.{Met, there}
use Rattle.pin_table.proofs.OwnEvents.{any-met-later, any-met-before}
use Rattle.tree_laws.specs.Pairs.{PairOf}
use Rattle.tree_laws.specs.Holds.{some_loose, IsHeld}
use Rattle.tree_laws.specs.declared.hold.Hold.{Hold}
use Rattle.coalescing_tree.specs.Growing.{last_of}
use Rattle.coalescing_tree.proofs.TopLaws.{last-push}

module _ {J V M : Type 0} where
  -- Whether the last hold is loose, after one more came.
  pub loose-push : (digest_of : PairOf V → List ℕ) (pair : PairOf V) (u v w : CallerView) (hs new : List (Hold J V M)) (h : Hold J V M) → new ≡ hs ++ h ∷ [] → IsLater u v → IsHeld digest_of pair v w h → some_loose (last_of new) ≡ true → Met u w
  loose-push digest_of pair u v w hs new h pushed before held is =
      any-met-before u v w before held.got.later (there (digest_of pair) v, held.loose (sym (ap some_loose (ap last_of pushed ∙ last-push hs h)) ∙ is))

  -- And after none came.
  pub loose-after : (u v w : CallerView) (hs : List (Hold J V M)) → (some_loose (last_of hs) ≡ true → Met u v) → Got v [] w → some_loose (last_of hs) ≡ true → Met u w
  loose-after u v w hs met got is = any-met-later u v w got.later (met is)
