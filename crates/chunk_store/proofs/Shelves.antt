-- Files in the order of their names.
use Rattle.std.proofs.Common.{◌≡◌, ◌≤◌, ◌<◌, ℕ, zero, suc, ◌+◌, ◌-◌, Bool, true, false, cond, List, [], ◌∷◌, length, take, drop, get_or, refl, sym, ap, subst, ◌∙◌, arith, ◌⊎◌, inl, inr}
use Rattle.std.specs.List.{filter}
use Rattle.std.specs.List.Sorted.{IsPartitionedBy}
use Rattle.std.specs.Ordering.{is_lt, is_eq, ordering_reverse}
use Rattle.std.specs.declared.cmp.Ordering.{Ordering}
use Rattle.std.specs.declared.cmp.Ordering.TheVariants.{Less, Equal, Greater}
use Rattle.std.specs.FinMap as finite
use Rattle.std.proofs.lemmas.Cmp.{nat_list_cmp_total, tied_itself, alike_right}
use Rattle.std.proofs.lemmas.Bool.{cases_order}
use Rattle.record_text.specs.Names.{name_cmp}
use Rattle.chunk_store.specs.Files.{File, IsBelow, HasRisingNames, smaller, file_at, IsAt, IsGap}

-- filters that keep a prefix or a rest

filter_none : {X : Type 0} (p : X → Bool) (xs : List X) → ((j : ℕ) (d : X) → j < length xs → p (get_or xs j d) ≡ false) → filter p xs ≡ []
filter_none p [] h = refl
filter_none p (x ∷ xs) h =
    ap (λ b. cond b (x ∷ filter p xs) (filter p xs)) (h 0 x (omega arith)) ∙ filter_none p xs (λ j d l. h (suc j) d (omega arith))

filter_all : {X : Type 0} (p : X → Bool) (xs : List X) → ((j : ℕ) (d : X) → j < length xs → p (get_or xs j d) ≡ true) → filter p xs ≡ xs
filter_all p [] h = refl
filter_all p (x ∷ xs) h =
    ap (λ b. cond b (x ∷ filter p xs) (filter p xs)) (h 0 x (omega arith)) ∙ ap (λ y. x ∷ y) (filter_all p xs (λ j d l. h (suc j) d (omega arith)))

filter_prefix : {X : Type 0} (p : X → Bool) (xs : List X) (i : ℕ) → ((j : ℕ) (d : X) → j < i → j < length xs → p (get_or xs j d) ≡ true) → ((j : ℕ) (d : X) → i ≤ j → j < length xs → p (get_or xs j d) ≡ false) → filter p xs ≡ take i xs
filter_prefix p [] zero h g = refl
filter_prefix p [] (suc i) h g = refl
filter_prefix p (x ∷ xs) zero h g = filter_none p (x ∷ xs) (λ j d l. g j d (omega arith) l)
filter_prefix p (x ∷ xs) (suc i) h g =
    ap (λ b. cond b (x ∷ filter p xs) (filter p xs)) (h 0 x (omega arith) (omega arith))
    ∙ ap (λ y. x ∷ y) (filter_prefix p xs i (λ j d k l. h (suc j) d (omega arith) (omega arith)) (λ j d k l. g (suc j) d (omega arith) (omega arith)))

filter_back : {X : Type 0} (p : X → Bool) (xs : List X) (i : ℕ) → ((j : ℕ) (d : X) → j < i → j < length xs → p (get_or xs j d) ≡ false) → ((j : ℕ) (d : X) → i ≤ j → j < length xs → p (get_or xs j d) ≡ true) → filter p xs ≡ drop i xs
filter_back p [] zero h g = refl
filter_back p [] (suc i) h g = refl
filter_back p (x ∷ xs) zero h g = filter_all p (x ∷ xs) (λ j d l. g j d (omega arith) l)
filter_back p (x ∷ xs) (suc i) h g =
    ap (λ b. cond b (x ∷ filter p xs) (filter p xs)) (h 0 x (omega arith) (omega arith))
    ∙ filter_back p xs i (λ j d k l. h (suc j) d (omega arith) (omega arith)) (λ j d k l. g (suc j) d (omega arith) (omega arith))

-- the order of names

pub less_back : (a b : List ℕ) → name_cmp a b ≡ Less → name_cmp b a ≡ Greater
less_back a b h = nat_list_cmp_total.antisymm b a ∙ ap ordering_reverse h

pub greater_back : (a b : List ℕ) → name_cmp a b ≡ Greater → name_cmp b a ≡ Less
greater_back a b h = nat_list_cmp_total.antisymm b a ∙ ap ordering_reverse h

pub is_less : (o : Ordering) → is_lt o ≡ true → o ≡ Less
is_less Less h = refl
is_less Equal h = cc
is_less Greater h = cc

not_less : (o : Ordering) → is_lt o ≡ false → (o ≡ Equal) ⊎ (o ≡ Greater)
not_less Less h = cc
not_less Equal h = inl refl
not_less Greater h = inr refl

less_or_not : {A : Type 0} (o : Ordering) → o ≡ Less → is_lt o ≡ false → A
less_or_not Less h e = cc
less_or_not Equal h e = cc
less_or_not Greater h e = cc

pub same_name : (a b : List ℕ) → name_cmp a b ≡ Equal → a ≡ b
same_name a b h = finite.slice_cmp-IsAntisymmetric finite.nat_cmp-IsAntisymmetric a b h

le_cases : (i j : ℕ) → i ≤ j → (i ≡ j) ⊎ (i < j)
le_cases i j l = elim (cases_order i j) [ inl e ↦ inl e | inr (inl h) ↦ inr h | inr (inr h) ↦ absurd (omega arith) ]

below_at : (name : List ℕ) (fs : List File) (j : ℕ) (d : File) → IsBelow name fs → j < length fs → name_cmp name (get_or fs j d).0 ≡ Less
below_at name [] j d h l = absurd (omega arith)
below_at name (f ∷ fs) zero d h l = h.0
below_at name (f ∷ fs) (suc j) d h l = below_at name fs j d h.1 (omega arith)

rises_at : (fs : List File) (i j : ℕ) (d : File) → HasRisingNames fs → i < j → j < length fs → name_cmp (get_or fs i d).0 (get_or fs j d).0 ≡ Less
rises_at [] i j d h k l = absurd (omega arith)
rises_at (f ∷ fs) i zero d h k l = absurd (omega arith)
rises_at (f ∷ fs) zero (suc j) d h k l = below_at f.0 fs j d h.0 (omega arith)
rises_at (f ∷ fs) (suc i) (suc j) d h k l = rises_at fs i j d h.1 (omega arith) (omega arith)

-- the files with smaller names come first
pub parted : (files : List File) (name : List ℕ) → HasRisingNames files → IsPartitionedBy (λ f. is_lt (name_cmp f.0 name)) files
parted files name h i j d le l t =
    elim (le_cases i j le) [
      | inl e ↦ subst (λ k. is_lt (name_cmp (get_or files k d).0 name) ≡ true) (sym e) t
      | inr less ↦ ap is_lt (nat_list_cmp_total.trans (get_or files i d).0 (get_or files j d).0 name (rises_at files i j d h less l) (is_less _ t))
    ]

file_none : (name : List ℕ) (files : List File) → ((j : ℕ) (d : File) → j < length files → is_eq (name_cmp name (get_or files j d).0) ≡ false) → file_at name files ≡ []
file_none name [] h = refl
file_none name (f ∷ fs) h = ap (λ b. cond b f.1 (file_at name fs)) (h 0 f (omega arith)) ∙ file_none name fs (λ j d l. h (suc j) d (omega arith))

file_found : (name : List ℕ) (files : List File) (i : ℕ) (d : File) → ((j : ℕ) (d : File) → j < i → j < length files → is_eq (name_cmp name (get_or files j d).0) ≡ false) → i < length files → is_eq (name_cmp name (get_or files i d).0) ≡ true
    → file_at name files ≡ (get_or files i d).1
file_found name [] i d h l e = absurd (omega arith)
file_found name (f ∷ fs) zero d h l e = ap (λ b. cond b f.1 (file_at name fs)) e
file_found name (f ∷ fs) (suc i) d h l e =
    ap (λ b. cond b f.1 (file_at name fs)) (h 0 f (omega arith) (omega arith)) ∙ file_found name fs i d (λ j d k m. h (suc j) d (omega arith) (omega arith)) (omega arith) e

-- what a search for a name says: names below it come before place `i`, and no others
module _ (files : List File) (name : List ℕ) (rising : HasRisingNames files) (i : ℕ)
    (lows : (j : ℕ) (d : File) → j < i → j < length files → is_lt (name_cmp (get_or files j d).0 name) ≡ true)
    (highs : (j : ℕ) (d : File) → i ≤ j → j < length files → is_lt (name_cmp (get_or files j d).0 name) ≡ false) where
  low_is : (j : ℕ) (d : File) → j < i → j < length files → name_cmp name (get_or files j d).0 ≡ Greater
  low_is j d k l = less_back (get_or files j d).0 name (is_less _ (lows j d k l))

  lower : smaller name files ≡ take i files
  lower = filter_prefix (λ f. is_lt (name_cmp f.0 name)) files i lows highs

  pub at_place : i < length files → ((d : File) → (get_or files i d).0 ≡ name) → IsAt name files i
  at_place l here = record {
    within = l;
    prefix = lower;
    back = filter_back (λ f. is_lt (name_cmp name f.0)) files (i + 1)
        (λ j d k m. elim (le_cases j i (omega arith)) [
          | inl e ↦ ap is_lt (subst (λ n. name_cmp name (get_or files n d).0 ≡ Equal) (sym e) (ap (name_cmp name) (here d) ∙ tied_itself nat_list_cmp_total name))
          | inr less ↦ ap is_lt (low_is j d less m)
        ])
        (λ j d k m. ap is_lt (subst (λ n. name_cmp n (get_or files j d).0 ≡ Less) (here d) (rises_at files i j d rising (omega arith) m)));
    named = here;
    chunks = λ d. sym (file_found name files i d (λ j d k m. ap is_eq (low_is j d k m)) l (ap is_eq (ap (name_cmp name) (here d) ∙ tied_itself nat_list_cmp_total name)));
  }

  high_is : ((d : File) → i < length files → (get_or files i d).0 ≡ name → ⊥) → (j : ℕ) (d : File) → i ≤ j → j < length files → name_cmp name (get_or files j d).0 ≡ Less
  high_is apart j d k l =
      elim (not_less _ (highs j d k l)) [
        | inr h ↦ greater_back (get_or files j d).0 name h
        | inl h ↦ elim (le_cases i j k) [
          | inl e ↦ absurd (apart d (omega arith) (subst (λ n. (get_or files n d).0 ≡ name) (sym e) (same_name (get_or files j d).0 name h)))
          | inr less ↦ less_or_not (name_cmp (get_or files i d).0 name)
              (sym (alike_right nat_list_cmp_total (get_or files j d).0 name (get_or files i d).0 h) ∙ rises_at files i j d rising less l)
              (highs i d (omega arith) (omega arith))
        ]
      ]

  pub gap_place : i ≤ length files → ((d : File) → i < length files → (get_or files i d).0 ≡ name → ⊥) → IsGap name files i
  gap_place l apart = record {
    within = l;
    prefix = lower;
    back = filter_back (λ f. is_lt (name_cmp name f.0)) files i (λ j d k m. ap is_lt (low_is j d k m)) (λ j d k m. ap is_lt (high_is apart j d k m));
    none = file_none name files (λ j d m. elim (cases_order j i) [
      | inl e ↦ ap is_eq (high_is apart j d (omega arith) m)
      | inr (inl less) ↦ ap is_eq (low_is j d less m)
      | inr (inr more) ↦ ap is_eq (high_is apart j d (omega arith) m)
    ]);
  }
