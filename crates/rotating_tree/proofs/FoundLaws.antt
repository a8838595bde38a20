-- What holds of all leaves, stated for places, for slots and for the nodes over them.
use Rattle.std.proofs.Common.{◌≡◌, ℕ, suc, zero, ◌-◌, ◌≤◌, arith, sym, ap, ◌∙◌, List, [], ◌∷◌, ◌++◌, length, length-append, refl, subst, Option, Some, None, set, take, drop, map, append-nil}
use Rattle.std.proofs.lemmas.List.{take-append-drop, take-take}
use Rattle.std.specs.Prelude.{IfSome}
use Rattle.definitions.specs.Tables.{IsRising, HasGoodValues, IsGoodJoin}
use Rattle.sheets.specs.Sheets.{SheetOf}
use Rattle.sheets.specs.United.{tables_of}
use Rattle.tree_laws.specs.Pairs.{merge_of, pair_of}
use Rattle.tree_laws.specs.Trees.{IsLeaf, IsWithin}
use Rattle.tree_laws.proofs.KeyCounts.{within-first, within-next}
use Rattle.tree_laws.proofs.LeafLaws.{leaf-merge, within-merge}
use Rattle.rotating_tree.specs.declared.part.Part.{Part}
use Rattle.rotating_tree.specs.declared.part.Part.TheVariants.{Void, Shared, Merged}
use Rattle.rotating_tree.specs.declared.node.Node.{Node, Leaf, Fork'}
use Rattle.rotating_tree.specs.Nodes.{AllSome, IsJoined, IsSound, part_sheet, places, now_of}
use Rattle.rotating_tree.specs.Circles.{slots, voids, row, found}

module _ {X : Type 0} (P : X → Type 0) where
  pub all-append : (xs ys : List (Option X)) → AllSome P xs → AllSome P ys → AllSome P (xs ++ ys)
  all-append [] ys a b = b
  all-append (o ∷ xs) ys a b = (a.0, all-append xs ys a.1 b)

  pub all-left : (xs ys : List (Option X)) → AllSome P (xs ++ ys) → AllSome P xs
  all-left [] ys a = tt
  all-left (o ∷ xs) ys a = (a.0, all-left xs ys a.1)

  pub all-right : (xs ys : List (Option X)) → AllSome P (xs ++ ys) → AllSome P ys
  all-right [] ys a = a
  all-right (o ∷ xs) ys a = all-right xs ys a.1

  pub all-set : (xs : List (Option X)) (i : ℕ) (v : X) → AllSome P xs → P v → AllSome P (set xs i (Some v))
  all-set [] i v a p = tt
  all-set (o ∷ xs) zero v a p = (p, a.1)
  all-set (o ∷ xs) (suc i) v a p = (a.0, all-set xs i v a.1 p)

  pub all-voids : (k : ℕ) → AllSome P (voids k)
  all-voids zero = tt
  all-voids (suc k) = (tt, all-voids k)

  -- All slots, and all places after them, are all places.
  pub all-slots : (n start : ℕ) (xs : List (Option X)) → start ≤ n → AllSome P (slots n start xs) → AllSome P (drop n xs) → AllSome P xs
  all-slots n start xs le a b =
      let first : AllSome P (take start (take n xs)) = subst (AllSome P) (sym (take-take start n xs le)) (all-right (drop start (take n xs)) (take start xs) a) in
      let front : AllSome P (take n xs) = subst (AllSome P) (take-append-drop start (take n xs)) (all-append (take start (take n xs)) (drop start (take n xs)) first (all-left (drop start (take n xs)) (take start xs) a)) in
      subst (AllSome P) (take-append-drop n xs) (all-append (take n xs) (drop n xs) front b)

-- The leaves found in rows and in parts of a list.
pub found-append : {X : Type 0} (xs ys : List (Option X)) → found (xs ++ ys) ≡ found xs ++ found ys
found-append [] ys = refl
found-append (None ∷ xs) ys = found-append xs ys
found-append (Some x ∷ xs) ys = ap (λ l. x ∷ l) (found-append xs ys)

pub found-some : {X : Type 0} (leaves : List X) (os : List (Option X)) → found (map Some leaves ++ os) ≡ leaves ++ found os
found-some [] os = refl
found-some (x ∷ leaves) os = ap (λ l. x ∷ l) (found-some leaves os)

pub found-voids : (X : Type 0) (k : ℕ) → found (voids {X = X} k) ≡ []
found-voids X zero = refl
found-voids X (suc k) = found-voids X k

pub found-row : {X : Type 0} (n : ℕ) (leaves : List X) → found (row n leaves) ≡ leaves
found-row {X} n leaves = found-some leaves (voids (n - length leaves)) ∙ ap (λ l. leaves ++ l) (found-voids X (n - length leaves)) ∙ append-nil leaves

-- As many leaves are in the slots as at the places, if those after the slots are void.
pub found-slots : {X : Type 0} (n start k : ℕ) (xs : List (Option X)) → start ≤ n → drop n xs ≡ voids k → length (found (slots n start xs)) ≡ length (found xs)
found-slots {X} n start k xs le rest =
    let a = drop start (take n xs) in
    let b = take start (take n xs) in
    let first : found (slots n start xs) ≡ found a ++ found b = ap (λ ys. found (a ++ ys)) (sym (take-take start n xs le)) ∙ found-append a b in
    let front : found (take n xs) ≡ found b ++ found a = ap found (sym (take-append-drop start (take n xs))) ∙ found-append b a in
    let whole : found xs ≡ found (take n xs) ++ [] = ap found (sym (take-append-drop n xs)) ∙ found-append (take n xs) (drop n xs) ∙ ap (λ ys. found (take n xs) ++ ys) (ap found rest ∙ found-voids X k) in
    omega (arith, ap length first, ap length whole, ap length front, length-append (found a) (found b), length-append (found b) (found a), length-append (found (take n xs)) [])

module _ {V : Type 0} where
  -- Each key of a leaf is in one of the leaves.
  pub within-leaves : (leaves : List (SheetOf V)) (ts : List (List (List ℕ × V))) → ((t : List (List ℕ × V)) → IsWithin t (tables_of leaves) → IsWithin t ts) → AllSome (λ (s : SheetOf V). IsWithin s.entries ts) (map Some leaves)
  within-leaves [] ts f = tt
  within-leaves (s ∷ leaves) ts f = (f s.entries (within-first s.entries (tables_of leaves)), within-leaves leaves ts (λ t w. f t (within-next t s.entries (tables_of leaves) w)))

  pub within-row : (n : ℕ) (leaves : List (SheetOf V)) → AllSome (λ (s : SheetOf V). IsWithin s.entries (tables_of leaves)) (row n leaves)
  within-row n leaves = all-append (λ (s : SheetOf V). IsWithin s.entries (tables_of leaves)) (map Some leaves) (voids (n - length leaves)) (within-leaves leaves (tables_of leaves) (λ t w. w)) (all-voids (λ (s : SheetOf V). IsWithin s.entries (tables_of leaves)) (n - length leaves))

-- A share of a sheet with this setting is a leaf.
pub shared-leaf : {V : Type 0} (good : ℕ → V → Type 0) (setting : ℕ) (item leaf : SheetOf V) → leaf ≡ item → IsRising item.entries → HasGoodValues (good item.setting) item.entries → item.setting ≡ setting → IsLeaf good setting leaf
shared-leaf good setting item leaf same rising values is = subst (IsLeaf good setting) (sym same) (record {
  setting_is = is;
  values = subst (λ (s : ℕ). HasGoodValues (good s) item.entries) is values;
  rising = rising;
})

module _ {J V M : Type 0} (joined : ℕ → V → V → V) where
  -- What holds of leaves, and is kept by merges, holds of nodes.
  module _ (P : SheetOf V → Type 0) (merges : (a b : SheetOf V) → P a → P b → P (merge_of joined (pair_of a b))) where
    pub joined-so : (a b : Option (SheetOf V)) (part : Part J V M) → IsJoined joined a b part → IfSome a P → IfSome b P → IfSome (part_sheet part) P
    joined-so None None Void h x y = tt
    joined-so None None (Shared s) h x y = absurd h
    joined-so None None (Merged g) h x y = absurd h
    joined-so None (Some b) Void h x y = absurd h
    joined-so None (Some b) (Shared s) h x y = subst P (sym h) y
    joined-so None (Some b) (Merged g) h x y = absurd h
    joined-so (Some a) None Void h x y = absurd h
    joined-so (Some a) None (Shared s) h x y = subst P (sym h) x
    joined-so (Some a) None (Merged g) h x y = absurd h
    joined-so (Some a) (Some b) Void h x y = absurd h
    joined-so (Some a) (Some b) (Shared s) h x y = absurd h
    joined-so (Some a) (Some b) (Merged g) h x y = subst P (sym h) (merges a b x y)

    pub sound-so : (n : Node J V M) → IsSound joined n → AllSome P (places n) → IfSome (now_of n) P
    sound-so (Leaf now draft) s a = a.0
    sound-so (Fork' p l q r now draft) s a = joined-so (now_of l) (now_of r) now s.2 (sound-so l s.0 (all-left P (places l) (places r) a)) (sound-so r s.1 (all-right P (places l) (places r) a))

  pub leaf-nodes : (good : ℕ → V → Type 0) (laws : (s : ℕ) → IsGoodJoin (good s) (joined s)) (setting : ℕ) (n : Node J V M) → IsSound joined n → AllSome (IsLeaf good setting) (places n) → IfSome (now_of n) (IsLeaf good setting)
  leaf-nodes good laws setting n s a = sound-so (IsLeaf good setting) (leaf-merge joined good setting (laws setting)) n s a

  pub within-nodes : (ts : List (List (List ℕ × V))) (n : Node J V M) → IsSound joined n → AllSome (λ (s : SheetOf V). IsWithin s.entries ts) (places n) → IfSome (now_of n) (λ (s : SheetOf V). IsWithin s.entries ts)
  within-nodes ts n s a = sound-so (λ (s : SheetOf V). IsWithin s.entries ts) (within-merge joined ts) n s a
