-- Pins that a caller gets one call after another, and the holds that come with them.
use Rattle.std.proofs.Common.{◌≡◌, ◌⊎◌, inl, inr, ℕ, ◌||◌, Bool, true, false, List, [], ◌∷◌, ◌++◌, refl, sym, ap, subst, ◌∙◌, append-nil}
use Rattle.std.specs.List.{list_any}
use Rattle.std.proofs.lemmas.Bool.{or_cases}
use Rattle.std.proofs.lemmas.List.Folds.{list_any-append}
use Rattle.pin_table.specs.Views.{CallerView}
use Rattle.pin_table.specs.Covers.{PinName, Covered, Balanced, Got, IsLater}
use Rattle.pin_table.specs.OwnEvents.{Met, there}
use Rattle.pin_table.proofs.Covering.{got-then, got-same, got-balanced, balanced-then, covered-then, covered-none, all-given-later, given-append}
use Rattle.pin_table.proofs.OwnEvents.{any-met-later, any-met-before}
use Rattle.tree_laws.specs.Pairs.{PairOf}
use Rattle.tree_laws.specs.Holds.{is_loose, all_pins, IsHeld}
use Rattle.tree_laws.specs.Trades.{Gets}
use Rattle.tree_laws.specs.declared.hold.Hold.{Hold}
use Rattle.tree_laws.proofs.HoldLaws.{got-push}

pub gets-none : (v : CallerView) → Gets v [] v
gets-none v = (got-same v, tt)

-- A call that gave nothing.
pub gets-after : (u v w : CallerView) (ps : List PinName) → Gets u ps v → Got v [] w → Gets u ps w
gets-after u v w ps g n = (subst (λ (qs : List PinName). Got u qs w) (append-nil ps) (got-then u v w ps [] g.0 n), all-given-later v w ps n.later g.1)

-- One call after another.
pub gets-then : (u v w : CallerView) (ps qs : List PinName) → Gets u ps v → Gets v qs w → Gets u (ps ++ qs) w
gets-then u v w ps qs g h = (got-then u v w ps qs g.0 h.0, given-append w ps qs (all-given-later v w ps h.0.later g.1) h.1)

pub gets-covered : (u v : CallerView) (ps : List PinName) → Gets u ps v → Covered v ps
gets-covered u v ps g = covered-then u v [] ps (covered-none u) (got-balanced u v [] ps g.0) g.1

-- All new pins are given up.
pub gets-undone : (u v w : CallerView) (ps : List PinName) → Gets u ps v → ((qs : List PinName) → Balanced v (ps ++ qs) w qs) → Balanced u [] w []
gets-undone u v w ps g gone = balanced-then u v w [] ps [] (got-balanced u v [] ps g.0) (subst (λ (qs : List PinName). Balanced v qs w []) (append-nil ps) (gone []))

module _ {J V M : Type 0} (digest_of : PairOf V → List ℕ) (pair : PairOf V) (u v w : CallerView) (hs new : List (Hold J V M)) (h : Hold J V M) (pushed : new ≡ hs ++ h ∷ []) (held : IsHeld digest_of pair v w h) where
  pub gets-push : Gets u (all_pins digest_of hs) v → Gets u (all_pins digest_of new) w
  gets-push g = subst (λ (xs : List (Hold J V M)). Gets u (all_pins digest_of xs) w) (sym pushed) (got-push digest_of pair u v w hs h g held)

  -- One of the holds is loose only if what makes a hold loose was met.
  pub loose-push : IsLater u v → (list_any is_loose hs ≡ true → Met u v) → list_any is_loose new ≡ true → Met u w
  loose-push before met is = go (or_cases (list_any is_loose hs) (list_any is_loose (h ∷ [])) (sym (list_any-append is_loose hs (h ∷ [])) ∙ (sym (ap (list_any is_loose) pushed) ∙ is)))
    where
      last : (b : Bool) → (b || false) ≡ true → b ≡ true
      last true e = refl
      last false e = e

      go : (list_any is_loose hs ≡ true) ⊎ (list_any is_loose (h ∷ []) ≡ true) → Met u w
      go (inl old) = any-met-later u v w held.got.later (met old)
      go (inr one) = any-met-before u v w before held.got.later (there (digest_of pair) v, held.loose (last (is_loose h) one))

-- The same after a call that gave nothing.
pub loose-after : {J V M : Type 0} (u v w : CallerView) (hs new : List (Hold J V M)) → new ≡ hs → (list_any is_loose hs ≡ true → Met u v) → Got v [] w → list_any is_loose new ≡ true → Met u w
loose-after u v w hs new same met got is = any-met-later u v w got.later (met (sym (ap (list_any is_loose) same) ∙ is))
