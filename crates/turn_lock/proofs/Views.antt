-- Facts about lists and views.
use Rattle.std.proofs.Common.{◌≡◌, ◌≢◌, ℕ, zero, suc, ◌+◌, ◌<◌, ◌≤◌, Bool, true, false, cond, ◌⊎◌, List, [], ◌∷◌, ◌++◌, length, set, sym, refl, ap, ◌∙◌, inl, inr, ⊎_elim, append_assoc, arith, ne_eqb}
use Rattle.std.specs.Prelude.{Option, Some, None}
use Rattle.std.proofs.lemmas.List.Elements.{filter-append}
use Rattle.std.proofs.lemmas.List.{append-nil}
use mathlib.Core.Option.{some, some-injective, some-ne-none}
use lib.ListN.{get_elem?}
use Rattle.turn_lock.specs.declared.knowledge.View.{View}
use Rattle.turn_lock.specs.declared.knowledge.Stage.{Stage}
use Rattle.turn_lock.specs.declared.knowledge.Stage.TheVariants.{Spent, Idle, Marked, Drawn, Serving}
use Rattle.turn_lock.specs.Under.{is_of, under}
use Rattle.turn_lock.specs.Rule.{Begins, Live, IsServing, HasDrawn, mark_of, marks, parts_of, parts}
use Rattle.shared_seats.specs.Seats.{total}

module _ {A : Type 0} where
  -- in x ∷ ys after xs
  pub at_both : (xs ys : List A) (y b : A) (j : ℕ) → get_elem? (xs ++ y ∷ ys) j ≡ some b → (get_elem? xs j ≡ some b) ⊎ ((y ≡ b) ⊎ ((i : ℕ) × (get_elem? ys i ≡ some b)))
  at_both [] ys y b zero e = inr (inl (some-injective y b e))
  at_both [] ys y b (suc j) e = inr (inr (j, e))
  at_both (x ∷ xs) ys y b zero e = inl e
  at_both (x ∷ xs) ys y b (suc j) e = at_both xs ys y b j e

  pub left_nil : (xs ys : List A) → xs ++ ys ≡ [] → xs ≡ []
  left_nil [] ys e = refl
  left_nil (x ∷ xs) ys e = cc

  pub begins_refl : (l : List A) → Begins l l
  begins_refl l = ([], sym (append-nil l))

  pub begins_more : (log more seen : List A) → Begins log seen → Begins (log ++ more) seen
  begins_more log more seen b = (b.0 ++ more, ap (λ l. l ++ more) b.1 ∙ append_assoc seen b.0 more)

module _ {E : Type 0} (whose : E → Option ℕ) where
  pub under-append : (n : ℕ) (xs ys : List E) → under whose n (xs ++ ys) ≡ under whose n xs ++ under whose n ys
  under-append n xs ys = filter-append (λ e. is_of n (whose e)) xs ys

  again_at : (n : ℕ) (x : E) (f : List E) (b : Bool) → is_of n (whose x) ≡ b → under whose n f ≡ f → under whose n (cond b (x ∷ f) f) ≡ cond b (x ∷ f) f
  again_at n x f true e ih = ap (λ (c : Bool). cond c (x ∷ under whose n f) (under whose n f)) e ∙ ap (λ (l : List E). x ∷ l) ih
  again_at n x f false e ih = ih

  pub under-again : (n : ℕ) (xs : List E) → under whose n (under whose n xs) ≡ under whose n xs
  under-again n [] = refl
  under-again n (x ∷ xs) = again_at n x (under whose n xs) (is_of n (whose x)) refl (under-again n xs)

  not_of : (n m : ℕ) (o : Option ℕ) → (o ≡ Some n) ⊎ (o ≡ None) → m ≢ n → is_of m o ≡ false
  not_of n m o (inl e) ne = ap (is_of m) e ∙ ne_eqb n m (λ h. ne (sym h))
  not_of n m o (inr e) ne = ap (is_of m) e

  -- an entry that is under n or under no number is under no other number
  pub under-other : (n m : ℕ) (log : List E) (e : E) → (whose e ≡ Some n) ⊎ (whose e ≡ None) → m ≢ n → under whose m (log ++ e ∷ []) ≡ under whose m log
  under-other n m log e w ne = under-append m log (e ∷ []) ∙ (ap (λ (l : List E). under whose m log ++ l) (ap (λ (b : Bool). cond b (e ∷ []) []) (not_of n m (whose e) w ne)) ∙ append-nil (under whose m log))

module _ {E : Type 0} where
  pub only : (s : Stage E) → (s ≡ Spent) ⊎ Live s
  only Spent = inl refl
  only Idle = inr tt
  only Marked = inr tt
  only (Drawn n) = inr tt
  only (Serving n note) = inr tt

  pub part_live : (a : Stage E) (n : ℕ) → Live a → parts_of a n ≡ n
  part_live Spent n x = absurd x
  part_live Idle n x = refl
  part_live Marked n x = refl
  part_live (Drawn k) n x = refl
  part_live (Serving k note) n x = refl

  pub mark_le : (a : Stage E) (n : ℕ) → 1 ≤ n → mark_of a ≤ parts_of a n
  mark_le Spent n h = omega arith
  mark_le Idle n h = omega arith
  mark_le Marked n h = h
  mark_le (Drawn k) n h = omega arith
  mark_le (Serving k note) n h = omega arith

  pub parts_live : (a b : Stage E) (n : ℕ) → Live a → Live b → parts_of a n ≡ parts_of b n
  parts_live a b n x y = part_live a n x ∙ sym (part_live b n y)

  pub marks_live : (v : View E) → marks v ≤ parts v
  marks_live v = mark_le v.stage (v.gives + length v.ended + 1) (omega arith)
