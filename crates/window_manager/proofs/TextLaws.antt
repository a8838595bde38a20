-- The text of leaves.
use Rattle.std.proofs.Common.{◌≡◌, ℕ, zero, suc, ◌+◌, ◌<◌, ◌≤◌, List, [], ◌∷◌, ◌++◌, length, take, drop, get_or, refl, sym, ap, ◌∙◌, arith, append-nil, take-append-drop}
use Rattle.std.proofs.lemmas.Grind.{common_steps}
use Rattle.std.specs.Prelude.{slice_set}
use Rattle.std.proofs.lemmas.List.{take_more}
use Rattle.definitions.specs.Records.{text_of}
use Rattle.marker_chunker.specs.Cuts.{joined}
use Rattle.marker_chunker.proofs.CutLaws.{joined_append}
use Rattle.window_manager.specs.Windows.{Leaf, with_late}
use Rattle.window_manager.specs.Buckets.{text_size}

pub length_append : (a b : List ℕ) → length (a ++ b) ≡ length a + length b
length_append a b = grind (arith, common_steps)

pub text_append : (a b : List (List ℕ)) → length (text_of (a ++ b)) ≡ length (text_of a) + length (text_of b)
text_append [] b = omega arith
text_append (r ∷ a) b =
    let rest = text_append a b in
    omega (arith, rest, length_append r (10 ∷ text_of (a ++ b)), length_append r (10 ∷ text_of a))

pub size_append : (a b : List Leaf) → text_size (a ++ b) ≡ text_size a + text_size b
size_append a b = ap (λ (l : List (List ℕ)). length (text_of l)) (joined_append a b) ∙ text_append (joined a) (joined b)

pub size_one : (l : Leaf) → text_size (l ∷ []) ≡ length (text_of l)
size_one l = ap (λ (rs : List (List ℕ)). length (text_of rs)) (append-nil l)

-- the text of the first leaves and of the others
pub size_cut : (n : ℕ) (leaves : List Leaf) → text_size (take n leaves) + text_size (drop n leaves) ≡ text_size leaves
size_cut n leaves = sym (size_append (take n leaves) (drop n leaves)) ∙ ap text_size (take-append-drop n leaves)

-- one leaf more among the first
pub size_prefix : (leaves : List Leaf) (i : ℕ) (leaf : Leaf) → i < length leaves → leaf ≡ get_or leaves i leaf → text_size (take (i + 1) leaves) ≡ text_size (take i leaves) + length (text_of leaf)
size_prefix leaves i leaf lt is =
    ap text_size (take_more leaves i leaf lt) ∙ size_append (take i leaves) (get_or leaves i leaf ∷ [])
    ∙ ap (λ (l : Leaf). text_size (take i leaves) + text_size (l ∷ [])) (sym is)
    ∙ ap (λ (n : ℕ). text_size (take i leaves) + n) (size_one leaf)

-- no list of records has more records than its text has bytes
pub count_size : (rs : List (List ℕ)) → length rs ≤ length (text_of rs)
count_size [] = omega arith
count_size (r ∷ rs) = omega (arith, count_size rs, length_append r (10 ∷ text_of rs))

-- records were added at the end of a leaf
pub size_late : (place : ℕ) (more : List (List ℕ)) (leaves : List Leaf) → place < length leaves → text_size (with_late place more leaves) ≡ text_size leaves + length (text_of more)
size_late place more [] lt = absurd (omega (arith, lt))
size_late zero more (leaf ∷ leaves) lt = omega (arith, text_append (leaf ++ more) (joined leaves), text_append leaf more, text_append leaf (joined leaves))
size_late (suc place) more (leaf ∷ leaves) lt =
    let rest = size_late place more leaves (omega (arith, lt)) in
    omega (arith, rest, text_append leaf (joined (with_late place more leaves)), text_append leaf (joined leaves))

pub count_late : (place : ℕ) (more : List (List ℕ)) (leaves : List Leaf) → length (with_late place more leaves) ≡ length leaves
count_late place more [] = refl
count_late zero more (leaf ∷ leaves) = refl
count_late (suc place) more (leaf ∷ leaves) = let rest = count_late place more leaves in omega (arith, rest)

pub late_nothing : (place : ℕ) (leaves : List Leaf) → with_late place [] leaves ≡ leaves
late_nothing place [] = refl
late_nothing zero (leaf ∷ leaves) = ap (λ (l : Leaf). l ∷ leaves) (append-nil leaf)
late_nothing (suc place) (leaf ∷ leaves) = ap (λ (ls : List Leaf). leaf ∷ ls) (late_nothing place leaves)

pub late_set : (place : ℕ) (more : List (List ℕ)) (leaves : List Leaf) (leaf : Leaf) → place < length leaves → leaf ≡ get_or leaves place leaf → with_late place more leaves ≡ slice_set leaves place (leaf ++ more)
late_set place more [] leaf lt is = absurd (omega (arith, lt))
late_set zero more (l ∷ leaves) leaf lt is = ap (λ (x : Leaf). (x ++ more) ∷ leaves) (sym is)
late_set (suc place) more (l ∷ leaves) leaf lt is = ap (λ (ls : List Leaf). l ∷ ls) (late_set place more leaves leaf (omega (arith, lt)) is)

-- one leaf has no more text than all
pub size_part : (leaves : List Leaf) (i : ℕ) (leaf : Leaf) → i < length leaves → leaf ≡ get_or leaves i leaf → length (text_of leaf) ≤ text_size leaves
size_part leaves i leaf lt is = omega (arith, size_prefix leaves i leaf lt is, size_cut (i + 1) leaves)
