-- Merging two lists in an order, repeats kept.
use Rattle.std.specs.Prelude.{◌≡◌, false, cond, List, [], ◌∷◌}
use Rattle.std.specs.declared.cmp.Ordering.{Ordering}
use Rattle.std.specs.Ordering.{is_gt}

module _ {A : Type 0} (R : A → A → Ordering) where
  -- A member and the rest after it, merged with the others: the left one first if they tie.
  abbrev pub in_order_into : A → (List A → List A) → List A → List A
  in_order_into a rest [] = a ∷ rest []
  in_order_into a rest (b ∷ bs) = cond (is_gt (R a b)) (b ∷ in_order_into a rest bs) (a ∷ rest (b ∷ bs))

  -- Two ordered lists merged.
  abbrev pub in_order : List A → List A → List A
  in_order [] bs = bs
  in_order (a ∷ as') bs = in_order_into a (in_order as') bs

  -- The member comes after none of the list.
  abbrev pub IsFirstOf : A → List A → Type 0
  IsFirstOf a [] = Unit {0}
  IsFirstOf a (b ∷ bs) = (is_gt (R a b) ≡ false) × IsFirstOf a bs

  -- Each member comes after none of those after it.
  abbrev pub IsOrdered : List A → Type 0
  IsOrdered [] = Unit {0}
  IsOrdered (a ∷ as') = IsFirstOf a as' × IsOrdered as'
