-- A replaced file has the given chunks, and every other file those that it had.
use Rattle.std.proofs.Common.{◌≡◌, ◌≢◌, Bool, true, false, cond, ℕ, List, [], ◌∷◌, ◌++◌, refl, sym, ap, ◌∙◌}
use Rattle.std.specs.List.{filter}
use Rattle.std.specs.Ordering.{is_lt, is_eq, eq_by_cmp}
use Rattle.std.specs.declared.cmp.Ordering.{Ordering}
use Rattle.std.specs.declared.cmp.Ordering.TheVariants.{Less, Equal, Greater}
use Rattle.std.proofs.lemmas.Cmp.{nat_list_cmp_total, tied_itself, alike_right}
use Rattle.record_text.specs.Names.{name_cmp}
use Rattle.chunk_store.specs.Files.{File, smaller, greater, file_at, file_of, with_file}
use Rattle.chunk_store.proofs.Shelves.{is_less, less_back, greater_back, same_name}

-- none of these files has the name
abbrev Lacks : List ℕ → List File → Type 0
Lacks n [] = Unit {0}
Lacks n (f ∷ fs) = (is_eq (name_cmp n f.0) ≡ false) × Lacks n fs

lacks_none : (n : List ℕ) (fs : List File) → Lacks n fs → file_at n fs ≡ []
lacks_none n [] h = refl
lacks_none n (f ∷ fs) h = ap (λ b. cond b f.1 (file_at n fs)) h.0 ∙ lacks_none n fs h.1

skip : (n : List ℕ) (fs gs : List File) → Lacks n fs → file_at n (fs ++ gs) ≡ file_at n gs
skip n [] gs h = refl
skip n (f ∷ fs) gs h = ap (λ b. cond b f.1 (file_at n (fs ++ gs))) h.0 ∙ skip n fs gs h.1

keep : (n : List ℕ) (fs gs : List File) → Lacks n gs → file_at n (fs ++ gs) ≡ file_at n fs
keep n [] gs h = lacks_none n gs h
keep n (f ∷ fs) gs h = ap (λ x. cond (eq_by_cmp name_cmp n f.0) f.1 x) (keep n fs gs h)

lacks_append : (n : List ℕ) (fs gs : List File) → Lacks n fs → Lacks n gs → Lacks n (fs ++ gs)
lacks_append n [] gs h g = g
lacks_append n (f ∷ fs) gs h g = (h.0, lacks_append n fs gs h.1 g)

filter_lacks : (n : List ℕ) (p : File → Bool) → ((f : File) → p f ≡ true → is_eq (name_cmp n f.0) ≡ false) → (fs : List File) → Lacks n (filter p fs)
filter_lacks n p h [] = tt
filter_lacks n p h (f ∷ fs) =
    elim (p f) as (λ b. p f ≡ b → Lacks n (cond b (f ∷ filter p fs) (filter p fs))) [
      | true ↦ λ e. (h f e, filter_lacks n p h fs)
      | false ↦ λ e. filter_lacks n p h fs
    ] refl

unlike : {A : Type 0} (b : Bool) → b ≡ true → b ≡ false → A
unlike b h e = cc

filter_same : (n : List ℕ) (p : File → Bool) → ((f : File) → is_eq (name_cmp n f.0) ≡ true → p f ≡ true) → (fs : List File) → file_at n (filter p fs) ≡ file_at n fs
filter_same n p h [] = refl
filter_same n p h (f ∷ fs) =
    elim (p f) as (λ b. p f ≡ b → file_at n (cond b (f ∷ filter p fs) (filter p fs)) ≡ file_at n (f ∷ fs)) [
      | true ↦ λ e. ap (λ x. cond (eq_by_cmp name_cmp n f.0) f.1 x) (filter_same n p h fs)
      | false ↦ λ e. elim (is_eq (name_cmp n f.0)) as (λ b. is_eq (name_cmp n f.0) ≡ b → file_at n (filter p fs) ≡ cond b f.1 (file_at n fs)) [
        | true ↦ λ t. unlike (p f) (h f t) e
        | false ↦ λ t. filter_same n p h fs
      ] refl
    ] refl

is_equal : (o : Ordering) → is_eq o ≡ true → o ≡ Equal
is_equal Less h = cc
is_equal Equal h = refl
is_equal Greater h = cc

pub with_itself : (name : List ℕ) (cs : List (List (List ℕ))) (files : List File) → file_at name (with_file name cs files) ≡ cs
with_itself name cs files =
    skip name (smaller name files) (file_of name cs ++ greater name files) (filter_lacks name (λ f. is_lt (name_cmp f.0 name)) (λ f t. ap is_eq (less_back f.0 name (is_less _ t))) files)
    ∙ keep name (file_of name cs) (greater name files) (filter_lacks name (λ f. is_lt (name_cmp name f.0)) (λ f t. ap is_eq (is_less _ t)) files)
    ∙ own cs
  where
    own : (cs : List (List (List ℕ))) → file_at name (file_of name cs) ≡ cs
    own [] = refl
    own (c ∷ cs) = ap (λ o. cond (is_eq o) (c ∷ cs) []) (tied_itself nat_list_cmp_total name)

lacks_of : (n name : List ℕ) (cs : List (List (List ℕ))) → is_eq (name_cmp n name) ≡ false → Lacks n (file_of name cs)
lacks_of n name [] h = tt
lacks_of n name (c ∷ cs) h = (h, tt)

pub with_other : (name n : List ℕ) (cs : List (List (List ℕ))) (files : List File) → name ≢ n → file_at n (with_file name cs files) ≡ file_at n files
with_other name n cs files apart =
    elim (name_cmp n name) as (λ o. name_cmp n name ≡ o → file_at n (with_file name cs files) ≡ file_at n files) [
      | Less ↦ λ e. keep n (smaller name files) (file_of name cs ++ greater name files)
          (lacks_append n (file_of name cs) (greater name files) (lacks_of n name cs (ap is_eq e))
          (filter_lacks n (λ f. is_lt (name_cmp name f.0)) (λ f t. ap is_eq (nat_list_cmp_total.trans n name f.0 e (is_less _ t))) files))
          ∙ filter_same n (λ f. is_lt (name_cmp f.0 name)) (λ f t. ap is_lt (sym (nat_list_cmp_total.congr n f.0 name (is_equal _ t)) ∙ e)) files
      | Equal ↦ λ e. absurd (apart (sym (same_name n name e)))
      | Greater ↦ λ e. skip n (smaller name files) (file_of name cs ++ greater name files)
          (filter_lacks n (λ f. is_lt (name_cmp f.0 name)) (λ f t. ap is_eq (less_back f.0 n (nat_list_cmp_total.trans f.0 name n (is_less _ t) (greater_back n name e)))) files)
          ∙ skip n (file_of name cs) (greater name files) (lacks_of n name cs (ap is_eq e))
          ∙ filter_same n (λ f. is_lt (name_cmp name f.0)) (λ f t. ap is_lt (sym (alike_right nat_list_cmp_total n f.0 name (is_equal _ t)) ∙ greater_back n name e)) files
    ] refl
