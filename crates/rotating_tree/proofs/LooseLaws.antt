-- Loose nodes, and how many pins a tree has.
use Rattle.std.proofs.Common.{◌≡◌, ◌⊎◌, inl, inr, ℕ, ◌+◌, ◌-◌, ◌≤◌, ◌||◌, arith, sym, ap, ◌∙◌, List, [], ◌∷◌, ◌++◌, length, length-append, refl, subst, Option, Some, None, Bool, true, false}
use Rattle.sheets.specs.Sheets.{SheetOf}
use Rattle.tree_laws.specs.Pairs.{PairOf}
use Rattle.tree_laws.specs.Holds.{hold_pins}
use Rattle.tree_laws.specs.declared.hold.Hold.{Hold}
use Rattle.tree_laws.specs.declared.hold.Hold.TheVariants.{Pinned, Loose}
use Rattle.rotating_tree.specs.declared.part.Part.{Part}
use Rattle.rotating_tree.specs.declared.part.Part.TheVariants.{Void, Shared, Merged}
use Rattle.rotating_tree.specs.declared.draft.Draft.{Draft}
use Rattle.rotating_tree.specs.declared.draft.Draft.TheVariants.{Same, Due, New}
use Rattle.rotating_tree.specs.declared.node.Node.{Node, Leaf, Fork'}
use Rattle.rotating_tree.specs.Nodes.{IsPlain, IsJoined, IsSound, IsSettled, IsStagedLeaf, StagedBy, part_sheet, part_pins, draft_pins, node_pins, next_by, places, now_of}
use Rattle.rotating_tree.specs.Circles.{found}
use Rattle.rotating_tree.proofs.FoundLaws.{found-append}

pub or-cases : (a b : Bool) → (a || b) ≡ true → (a ≡ true) ⊎ (b ≡ true)
or-cases true b e = inl refl
or-cases false b e = inr e

pub or-left : (a b : Bool) → a ≡ true → (a || b) ≡ true
or-left true b e = refl
or-left false b e = absurd (let no : false ≡ true = e in cc)

pub or-right : (a b : Bool) → b ≡ true → (a || b) ≡ true
or-right true b e = refl
or-right false b e = e

-- If each of two flags is set only if it was set before or M holds, the same holds of both together.
pub or-met : (M : Type 0) (a b c d : Bool) → (a ≡ true → (c ≡ true) ⊎ M) → (b ≡ true → (d ≡ true) ⊎ M) → (a || b) ≡ true → ((c || d) ≡ true) ⊎ M
or-met M a b c d f g e = elim (or-cases a b e) [
  | inl x ↦ elim (f x) [ inl y ↦ inl (or-left c d y) | inr m ↦ inr m ]
  | inr x ↦ elim (g x) [ inl y ↦ inl (or-right c d y) | inr m ↦ inr m ]
]

pub or-same : (a b c d : Bool) → (a ≡ true → c ≡ true) → (b ≡ true → d ≡ true) → (a || b) ≡ true → (c || d) ≡ true
or-same a b c d f g e = elim (or-cases a b e) [ inl x ↦ or-left c d (f x) | inr x ↦ or-right c d (g x) ]

-- Three flags instead of two.
pub or-wider : (a b c : Bool) → (a || b) ≡ true → (a || (b || c)) ≡ true
or-wider a b c e = or-same a b a (b || c) (λ x. x) (or-left b c) e

-- The pins under a sheet are fewer than its leaves.
abbrev pub Enough : {X : Type 0} → Option X → ℕ → ℕ → Type 0
Enough None pins leaves = (pins ≡ 0) × (leaves ≡ 0)
Enough (Some x) pins leaves = pins + 1 ≤ leaves

pub enough-few : {X : Type 0} (o : Option X) (pins leaves : ℕ) → Enough o pins leaves → pins ≤ leaves - 1
enough-few None pins leaves e = omega (arith, e.0)
enough-few (Some x) pins leaves e = omega (arith, e)

module _ {J V M : Type 0} (digest_of : PairOf V → List ℕ) where
  hold-few : (h : Hold J V M) → length (hold_pins digest_of h) ≤ 1
  hold-few (Pinned p) = omega arith
  hold-few (Loose s) = omega arith

  -- A draft of a staged tree has no pins.
  pub staged-leaf-pins : (draft : Draft J V M) → IsStagedLeaf draft → draft_pins digest_of draft ≡ []
  staged-leaf-pins Same s = refl
  staged-leaf-pins Due s = absurd s
  staged-leaf-pins (New Void) s = refl
  staged-leaf-pins (New (Shared x)) s = refl
  staged-leaf-pins (New (Merged h)) s = absurd s

  pub staged-fork-pins : (draft : Draft J V M) (A B : Type 0) (n : ℕ) → StagedBy draft A B n → draft_pins digest_of draft ≡ []
  staged-fork-pins Same A B n s = refl
  staged-fork-pins Due A B n s = refl
  staged-fork-pins (New part) A B n s = absurd s

  -- A node over places that is not made yet becomes what it is.
  pub staged-next : (now : Part J V M) (draft : Draft J V M) (A B : Type 0) (n : ℕ) → StagedBy draft A B n → next_by now draft ≡ now
  staged-next now Same A B n s = refl
  staged-next now Due A B n s = refl
  staged-next now (New part) A B n s = absurd s

  settled-pins : (draft : Draft J V M) → draft ≡ Same → draft_pins digest_of draft ≡ []
  settled-pins draft e = ap (draft_pins digest_of) e

  module _ (joined : ℕ → V → V → V) where
    joined-few : (a b : Option (SheetOf V)) (part : Part J V M) (pl kl pr kr : ℕ) → IsJoined joined a b part → Enough a pl kl → Enough b pr kr → Enough (part_sheet part) (pl + (pr + length (part_pins digest_of part))) (kl + kr)
    joined-few None None Void pl kl pr kr h x y = (omega (arith, x.0, y.0), omega (arith, x.1, y.1))
    joined-few None None (Shared s) pl kl pr kr h x y = absurd h
    joined-few None None (Merged g) pl kl pr kr h x y = absurd h
    joined-few None (Some b) Void pl kl pr kr h x y = absurd h
    joined-few None (Some b) (Shared s) pl kl pr kr h x y = omega (arith, x.0, y)
    joined-few None (Some b) (Merged g) pl kl pr kr h x y = absurd h
    joined-few (Some a) None Void pl kl pr kr h x y = absurd h
    joined-few (Some a) None (Shared s) pl kl pr kr h x y = omega (arith, x, y.0)
    joined-few (Some a) None (Merged g) pl kl pr kr h x y = absurd h
    joined-few (Some a) (Some b) Void pl kl pr kr h x y = absurd h
    joined-few (Some a) (Some b) (Shared s) pl kl pr kr h x y = absurd h
    joined-few (Some a) (Some b) (Merged g) pl kl pr kr h x y = omega (arith, x, y, hold-few g)

    leaf-few : (now : Part J V M) → IsPlain now → Enough (part_sheet now) (length (part_pins digest_of now)) (length (found (part_sheet now ∷ [])))
    leaf-few Void s = (refl, refl)
    leaf-few (Shared x) s = omega arith
    leaf-few (Merged h) s = absurd s

    -- A tree without drafts has fewer pins than leaves.
    pub pins-few : (n : Node J V M) → IsSettled n → IsSound joined n → Enough (now_of n) (length (node_pins digest_of n)) (length (found (places n)))
    pins-few (Leaf now draft) t s =
        let none : length (part_pins digest_of now ++ draft_pins digest_of draft) ≡ length (part_pins digest_of now) = length-append (part_pins digest_of now) (draft_pins digest_of draft) ∙ omega (arith, ap length (settled-pins draft t)) in
        subst (λ (k : ℕ). Enough (part_sheet now) k (length (found (part_sheet now ∷ [])))) (sym none) (leaf-few now s)
    pins-few (Fork' p l q r now draft) t s =
        let lp = node_pins digest_of l in
        let rp = node_pins digest_of r in
        let np = part_pins digest_of now in
        let dp = draft_pins digest_of draft in
        let pins : length (lp ++ (rp ++ (np ++ dp))) ≡ length lp + (length rp + length np) = omega (arith, length-append lp (rp ++ (np ++ dp)), length-append rp (np ++ dp), length-append np dp, ap length (settled-pins draft t.2)) in
        let leaves : length (found (places l ++ places r)) ≡ length (found (places l)) + length (found (places r)) = ap length (found-append (places l) (places r)) ∙ length-append (found (places l)) (found (places r)) in
        subst (λ (k : ℕ). Enough (part_sheet now) k (length (found (places l ++ places r)))) (sym pins)
        (subst (λ (k : ℕ). Enough (part_sheet now) (length lp + (length rp + length np)) k) (sym leaves)
        (joined-few (now_of l) (now_of r) now (length lp) (length (found (places l))) (length rp) (length (found (places r))) s.2 (pins-few l t.0 s.0) (pins-few r t.1 s.1)))
