-- What the machine's edits do to a list of entries.
use Rattle.std.proofs.Common.{◌≡◌, ℕ, ◌+◌, ◌<◌, ◌≤◌, Bool, true, false, cond, ◌||◌, ◌&&◌, ◌==◌, List, [], ◌∷◌, ◌++◌, Option, Some, None, is_some, refl, ◌∙◌, arith}
use Rattle.std.specs.List.{list_any, filter}
use Rattle.std.specs.Option.{option_map}
use Rattle.std.specs.Str.{bytes_eq}
use Rattle.std.proofs.lemmas.Bool.Decides.{nat_tests}
use Rattle.std.proofs.lemmas.Cmp.{nat_list_eq_equiv}
use Rattle.memo_core.specs.declared.entries.CoreEntry.{CoreEntry}
use Rattle.memo_core.specs.Machine.{at_id, find_id, has_digest, names}
use Rattle.memo_core.specs.History.{how_many}

pub how_many-push : {X : Type 0} (test : X → Bool) (xs : List X) (x : X) → how_many test (xs ++ x ∷ []) ≡ how_many test xs + cond (test x) 1 0
how_many-push test [] x = omega arith
how_many-push test (y ∷ xs) x = omega (arith, how_many-push test xs x)

pub or_left : (a b : Bool) → (a || b) ≡ false → a ≡ false
or_left true b h = h
or_left false b h = refl

pub or_right : (a b : Bool) → (a || b) ≡ false → b ≡ false
or_right true b h = cc
or_right false b h = h

-- every id is above i
abbrev pub IdsAbove : ℕ → List CoreEntry → Type 0
IdsAbove i [] = Unit {0}
IdsAbove i (e ∷ es) = (i < e.id) × IdsAbove i es

abbrev pub RisingIds : List CoreEntry → Type 0
RisingIds [] = Unit {0}
RisingIds (e ∷ es) = IdsAbove e.id es × RisingIds es

abbrev pub IdsBelow : ℕ → List CoreEntry → Type 0
IdsBelow n [] = Unit {0}
IdsBelow n (e ∷ es) = (e.id < n) × IdsBelow n es

abbrev pub DistinctDigests : List CoreEntry → Type 0
DistinctDigests [] = Unit {0}
DistinctDigests (e ∷ es) = (has_digest e.digest es ≡ false) × DistinctDigests es

-- an entry that is kept if the test holds
abbrev pub keep_if : (CoreEntry → Bool) → Option CoreEntry → Option CoreEntry
keep_if p None = None
keep_if p (Some e) = cond (p e) (Some e) None

pub find_id-above : (i j : ℕ) (es : List CoreEntry) → IdsAbove i es → j ≤ i → find_id j es ≡ None
find_id-above i j [] h le = refl
find_id-above i j (e ∷ es) h le = grind (arith, nat_tests, h.0, find_id-above i j es h.1 le)

pub find_id-below : (n j : ℕ) (es : List CoreEntry) → IdsBelow n es → n ≤ j → find_id j es ≡ None
find_id-below n j [] h le = refl
find_id-below n j (e ∷ es) h le = grind (arith, nat_tests, h.0, find_id-below n j es h.1 le)

pub IdsBelow-found : (n j : ℕ) (es : List CoreEntry) (e : CoreEntry) → IdsBelow n es → find_id j es ≡ Some e → j < n
IdsBelow-found n j [] e h is = cc
IdsBelow-found n j (x ∷ es) e h is = found_case (x.id == j) refl (λ is. IdsBelow-found n j es e h.1 is) is
  where
    found_case : (b : Bool) → (x.id == j) ≡ b → (find_id j es ≡ Some e → j < n) → cond b (Some x) (find_id j es) ≡ Some e → j < n
    found_case true same ih is = grind (arith, nat_tests, h.0)
    found_case false same ih is = ih is

module _ (p : CoreEntry → Bool) where
  IdsAbove-filter : (i : ℕ) (es : List CoreEntry) → IdsAbove i es → IdsAbove i (filter p es)
  IdsAbove-filter i [] h = tt
  IdsAbove-filter i (e ∷ es) h = elim (p e) as (λ b. IdsAbove i (cond b (e ∷ filter p es) (filter p es))) [ true ↦ (h.0, IdsAbove-filter i es h.1) | false ↦ IdsAbove-filter i es h.1 ]

  pub RisingIds-filter : (es : List CoreEntry) → RisingIds es → RisingIds (filter p es)
  RisingIds-filter [] h = tt
  RisingIds-filter (e ∷ es) h = elim (p e) as (λ b. RisingIds (cond b (e ∷ filter p es) (filter p es))) [ true ↦ (IdsAbove-filter e.id es h.0, RisingIds-filter es h.1) | false ↦ RisingIds-filter es h.1 ]

  pub IdsBelow-filter : (n : ℕ) (es : List CoreEntry) → IdsBelow n es → IdsBelow n (filter p es)
  IdsBelow-filter n [] h = tt
  IdsBelow-filter n (e ∷ es) h = elim (p e) as (λ b. IdsBelow n (cond b (e ∷ filter p es) (filter p es))) [ true ↦ (h.0, IdsBelow-filter n es h.1) | false ↦ IdsBelow-filter n es h.1 ]

  pub has_digest-filter : (d : List ℕ) (es : List CoreEntry) → has_digest d es ≡ false → has_digest d (filter p es) ≡ false
  has_digest-filter d [] h = refl
  has_digest-filter d (e ∷ es) h =
      let tail : has_digest d (filter p es) ≡ false = has_digest-filter d es (or_right (bytes_eq e.digest d) _ h) in
      elim (p e) as (λ b. has_digest d (cond b (e ∷ filter p es) (filter p es)) ≡ false) [ true ↦ rw (or_left (bytes_eq e.digest d) _ h) tail | false ↦ tail ]

  pub DistinctDigests-filter : (es : List CoreEntry) → DistinctDigests es → DistinctDigests (filter p es)
  DistinctDigests-filter [] h = tt
  DistinctDigests-filter (e ∷ es) h = elim (p e) as (λ b. DistinctDigests (cond b (e ∷ filter p es) (filter p es))) [ true ↦ (has_digest-filter e.digest es h.0, DistinctDigests-filter es h.1) | false ↦ DistinctDigests-filter es h.1 ]

  pub find_id-filter : (j : ℕ) (es : List CoreEntry) → RisingIds es → find_id j (filter p es) ≡ keep_if p (find_id j es)
  find_id-filter j [] h = refl
  find_id-filter j (e ∷ es) h = grind (arith, nat_tests, find_id-filter j es h.1, find_id-above e.id j es h.0)

module _ (id : ℕ) (f : CoreEntry → CoreEntry) (same_id : (e : CoreEntry) → (f e).id ≡ e.id) (same_digest : (e : CoreEntry) → (f e).digest ≡ e.digest) where
  id_of : (b : Bool) (e : CoreEntry) → (cond b (f e) e).id ≡ e.id
  id_of true e = same_id e
  id_of false e = refl

  digest_of : (b : Bool) (e : CoreEntry) → (cond b (f e) e).digest ≡ e.digest
  digest_of true e = same_digest e
  digest_of false e = refl

  IdsAbove-at_id : (i : ℕ) (es : List CoreEntry) → IdsAbove i es → IdsAbove i (at_id id f es)
  IdsAbove-at_id i [] h = tt
  IdsAbove-at_id i (e ∷ es) h = (rw id_of h.0, IdsAbove-at_id i es h.1)

  pub RisingIds-at_id : (es : List CoreEntry) → RisingIds es → RisingIds (at_id id f es)
  RisingIds-at_id [] h = tt
  RisingIds-at_id (e ∷ es) h = (rw id_of (IdsAbove-at_id e.id es h.0), RisingIds-at_id es h.1)

  pub IdsBelow-at_id : (n : ℕ) (es : List CoreEntry) → IdsBelow n es → IdsBelow n (at_id id f es)
  IdsBelow-at_id n [] h = tt
  IdsBelow-at_id n (e ∷ es) h = (rw id_of h.0, IdsBelow-at_id n es h.1)

  pub has_digest-at_id : (d : List ℕ) (es : List CoreEntry) → has_digest d (at_id id f es) ≡ has_digest d es
  has_digest-at_id d [] = refl
  has_digest-at_id d (e ∷ es) = rw (digest_of, has_digest-at_id d es) refl

  pub DistinctDigests-at_id : (es : List CoreEntry) → DistinctDigests es → DistinctDigests (at_id id f es)
  DistinctDigests-at_id [] h = tt
  DistinctDigests-at_id (e ∷ es) h = (rw digest_of (has_digest-at_id e.digest es ∙ h.0), DistinctDigests-at_id es h.1)

  pub find_id-at_id : (j : ℕ) (es : List CoreEntry) → find_id j (at_id id f es) ≡ cond (j == id) (option_map f (find_id j es)) (find_id j es)
  find_id-at_id j [] = elim (j == id) as (λ b. None ≡ cond {A = Option CoreEntry} b None None) [ true ↦ refl | false ↦ refl ]
  find_id-at_id j (e ∷ es) = grind (arith, nat_tests, find_id-at_id j es, same_id e)

pub find_id-append : (j : ℕ) (es : List CoreEntry) (e : CoreEntry) → find_id j es ≡ None → find_id j (es ++ e ∷ []) ≡ cond (e.id == j) (Some e) None
find_id-append j [] e h = refl
find_id-append j (x ∷ es) e h = append_case (x.id == j) h (find_id-append j es e)
  where
    append_case : (b : Bool) → cond b (Some x) (find_id j es) ≡ None → (find_id j es ≡ None → find_id j (es ++ e ∷ []) ≡ cond (e.id == j) (Some e) None) → cond b (Some x) (find_id j (es ++ e ∷ [])) ≡ cond (e.id == j) (Some e) None
    append_case true h ih = cc
    append_case false h ih = ih h

pub find_id-append_found : (j : ℕ) (es : List CoreEntry) (e x : CoreEntry) → find_id j es ≡ Some x → find_id j (es ++ e ∷ []) ≡ Some x
find_id-append_found j [] e x h = cc
find_id-append_found j (y ∷ es) e x h = elim (y.id == j) as (λ b. cond b (Some y) (find_id j es) ≡ Some x → cond b (Some y) (find_id j (es ++ e ∷ [])) ≡ Some x) [ true ↦ λ h. h | false ↦ λ h. find_id-append_found j es e x h ] h

pub IdsBelow-append : (n : ℕ) (es : List CoreEntry) (e : CoreEntry) → IdsBelow n es → e.id ≡ n → IdsBelow (n + 1) (es ++ e ∷ [])
IdsBelow-append n [] e h is = (omega arith, tt)
IdsBelow-append n (x ∷ es) e h is = (omega (arith, h.0), IdsBelow-append n es e h.1 is)

IdsAbove-append : (i : ℕ) (es : List CoreEntry) (e : CoreEntry) → IdsAbove i es → i < e.id → IdsAbove i (es ++ e ∷ [])
IdsAbove-append i [] e h lt = (lt, tt)
IdsAbove-append i (x ∷ es) e h lt = (h.0, IdsAbove-append i es e h.1 lt)

pub RisingIds-append : (es : List CoreEntry) (e : CoreEntry) → RisingIds es → IdsBelow e.id es → RisingIds (es ++ e ∷ [])
RisingIds-append [] e h b = (tt, tt)
RisingIds-append (x ∷ es) e h b = (IdsAbove-append x.id es e h.0 b.0, RisingIds-append es e h.1 b.1)

has_digest-append : (d : List ℕ) (es : List CoreEntry) (e : CoreEntry) → has_digest d es ≡ false → bytes_eq e.digest d ≡ false → has_digest d (es ++ e ∷ []) ≡ false
has_digest-append d [] e h n = rw n refl
has_digest-append d (x ∷ es) e h n = rw (or_left (bytes_eq x.digest d) _ h) (has_digest-append d es e (or_right (bytes_eq x.digest d) _ h) n)

pub DistinctDigests-append : (es : List CoreEntry) (e : CoreEntry) → DistinctDigests es → has_digest e.digest es ≡ false → DistinctDigests (es ++ e ∷ [])
DistinctDigests-append [] e h n = (refl, tt)
DistinctDigests-append (x ∷ es) e h n = (has_digest-append x.digest es e h.0 (nat_list_eq_equiv.symm e.digest x.digest ∙ or_left (bytes_eq x.digest e.digest) _ n), DistinctDigests-append es e h.1 (or_right (bytes_eq x.digest e.digest) _ n))

pub live_from_names : (id : ℕ) (d : List ℕ) (es : List CoreEntry) → list_any (names id d) es ≡ true → is_some (find_id id es) ≡ true
live_from_names id d [] h = cc
live_from_names id d (e ∷ es) h = names_case (e.id == id) (bytes_eq e.digest d) h (live_from_names id d es)
  where
    names_case : (a b : Bool) → ((a && b) || list_any (names id d) es) ≡ true → (list_any (names id d) es ≡ true → is_some (find_id id es) ≡ true) → is_some (cond a (Some e) (find_id id es)) ≡ true
    names_case true b h ih = refl
    names_case false b h ih = ih h

pub has_digest-found : (id : ℕ) (d : List ℕ) (es : List CoreEntry) (e : CoreEntry) → find_id id es ≡ Some e → has_digest d es ≡ false → bytes_eq e.digest d ≡ false
has_digest-found id d [] e is h = cc
has_digest-found id d (x ∷ es) e is h = elim (x.id == id) as (λ b. cond b (Some x) (find_id id es) ≡ Some e → bytes_eq e.digest d ≡ false) [ true ↦ λ is. rw (← same x e is) (or_left (bytes_eq x.digest d) _ h) | false ↦ λ is. has_digest-found id d es e is (or_right (bytes_eq x.digest d) _ h) ] is
  where
    same : (a b : CoreEntry) → Some a ≡ Some b → a ≡ b
    same a b h = cc
