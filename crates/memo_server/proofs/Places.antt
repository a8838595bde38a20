-- Entries at their places.
use Rattle.std.proofs.Common.{◌≡◌, ℕ, zero, suc, ◌<◌, Bool, true, false, cond, ◌||◌, ◌==◌, nat_lt, List, [], ◌∷◌, ◌++◌, length, Some, None, slice_get, Result, Ok, Err, refl, sym, ap, subst, ◌∙◌, arith}
use Rattle.std.specs.Str.{bytes_eq}
use Rattle.std.specs.Result.{OnOk, OnErr, IfOk}
use Rattle.indexmap.specs.IndexMap.{set_value_at, insert_entry}
use Rattle.std.specs.Map.{lookup, lookup_key}
use Rattle.std.specs.List.{list_any}
use Rattle.std.proofs.lemmas.Bool.{ltb-true}
use Rattle.std.proofs.lemmas.Bool.Decides.{nat_tests}
use Rattle.std.proofs.lemmas.Cmp.{nat_list_eq_equiv}
use Rattle.std.proofs.lemmas.Slice.Eq.{bytes_eq-Decides}
use Rattle.memo_core.specs.Machine.{has_digest, names}
use Rattle.memo_core.proofs.Lists.{IdsAbove, RisingIds}
use Rattle.memo_server.specs.Views.{LiveView, at_live, update_at, found, Finds, HasRisingIds, core_entries}

pub same_some : {X : Type 0} (a b : X) → Some a ≡ Some b → a ≡ b
same_some a b h = cc

either_second : (a b : Bool) → b ≡ true → (a || b) ≡ true
either_second true b h = refl
either_second false b h = h

module _ {I O : Type 0} where
  -- The key that a search finds passes its test.
  pub found-key : (test : List ℕ → Bool) (es : List (List ℕ × LiveView I O)) (k : List ℕ) → lookup_key test es ≡ Some k → test k ≡ true
  found-key test [] k is = cc
  found-key test (e ∷ es) k is = found_case (test e.0) refl is (found-key test es k)
    where
      found_case : (b : Bool) → test e.0 ≡ b → cond b (Some e.0) (lookup_key test es) ≡ Some k → (lookup_key test es ≡ Some k → test k ≡ true) → test k ≡ true
      found_case true is found ih = ap test (sym (same_some e.0 k found)) ∙ is
      found_case false is found ih = ih found

  -- What a search by digest says of its place.
  pub finds-place : (digest : List ℕ) (es : List (List ℕ × LiveView I O)) (i : ℕ) (k : List ℕ) (l : LiveView I O) → lookup_key (bytes_eq digest) es ≡ Some k → lookup (bytes_eq digest) es ≡ Some l → slice_get es i ≡ Some (k, l) → Finds digest es (Some i)
  finds-place digest es i k l key value at =
      let same : digest ≡ k = (bytes_eq-Decides digest k).0 (found-key (bytes_eq digest) es k key) in
      (l, subst (λ (q : List ℕ). slice_get es i ≡ Some (q, l)) (sym same) at, value)

  -- A digest that is not found is no entry's.
  pub has-none : (digest : List ℕ) (es : List (List ℕ × LiveView I O)) → found digest es ≡ None → has_digest digest (core_entries es) ≡ false
  has-none digest [] none = refl
  has-none digest (e ∷ es) none = digest_case (bytes_eq digest e.0) (nat_list_eq_equiv.symm digest e.0) none (has-none digest es)
    where
      digest_case : (b : Bool) → b ≡ bytes_eq e.0 digest → cond b (Some e.1) (found digest es) ≡ None → (found digest es ≡ None → has_digest digest (core_entries es) ≡ false) → has_digest digest (core_entries (e ∷ es)) ≡ false
      digest_case true is none ih = cc
      digest_case false is none ih = rw (← is) (ih none)

  -- An entry at a place is named by its id and its digest.
  pub names-at : (digest : List ℕ) (es : List (List ℕ × LiveView I O)) (i : ℕ) (l : LiveView I O) → slice_get es i ≡ Some (digest, l) → list_any (names l.id digest) (core_entries es) ≡ true
  names-at digest [] i l at = cc
  names-at digest (e ∷ es) zero l at = rw (ap (λ (p : List ℕ × LiveView I O). p.0) (same_some e (digest, l) at), ap (λ (p : List ℕ × LiveView I O). p.1.id) (same_some e (digest, l) at)) (let self : (l.id == l.id) ≡ true = grind (arith, nat_tests) in rw (self, nat_list_eq_equiv.refl digest) refl)
  names-at digest (e ∷ es) (suc i) l at = either_second (names l.id digest (record { id = e.1.id; digest = e.0; used = e.1.used; pins = e.1.pins })) _ (names-at digest es i l at)

  ids_above_at : (n : ℕ) (es : List (List ℕ × LiveView I O)) (i : ℕ) (k : List ℕ) (l : LiveView I O) → IdsAbove n (core_entries es) → slice_get es i ≡ Some (k, l) → n < l.id
  ids_above_at n [] i k l above at = cc
  ids_above_at n (e ∷ es) zero k l above at = rw (sym (ap (λ (p : List ℕ × LiveView I O). p.1.id) (same_some e (k, l) at))) above.0
  ids_above_at n (e ∷ es) (suc i) k l above at = ids_above_at n es i k l above.1 at

  -- Ids rise with the places.
  pub rising-places : (es : List (List ℕ × LiveView I O)) → RisingIds (core_entries es) → HasRisingIds es
  rising-places [] rising i j k q a b at bt lt = cc
  rising-places (e ∷ es) rising i zero k q a b at bt lt = absurd (omega (arith, lt))
  rising-places (e ∷ es) rising zero (suc j) k q a b at bt lt = subst (λ (p : List ℕ × LiveView I O). p.1.id < b.id) (same_some e (k, a) at) (ids_above_at e.1.id es j q b rising.0 bt)
  rising-places (e ∷ es) rising (suc i) (suc j) k q a b at bt lt = rising-places es rising.1 i j k q a b at bt (omega (arith, lt))

  untouched : (id : ℕ) (f : LiveView I O → LiveView I O) (es : List (List ℕ × LiveView I O)) → IdsAbove id (core_entries es) → at_live id f es ≡ es
  untouched id f [] above = refl
  untouched id f (e ∷ es) above = let apart : (e.1.id == id) ≡ false = grind (arith, nat_tests, above.0) in rw apart (ap (λ (xs : List (List ℕ × LiveView I O)). e ∷ xs) (untouched id f es above.1))

  -- An edit at a place is one at the id of its entry.
  pub update-live : (f : LiveView I O → LiveView I O) (es : List (List ℕ × LiveView I O)) (i : ℕ) (k : List ℕ) (l : LiveView I O) → RisingIds (core_entries es) → slice_get es i ≡ Some (k, l) → update_at i f es ≡ at_live l.id f es
  update-live f [] i k l rising at = refl
  update-live f (e ∷ es) zero k l rising at =
      let same_id : e.1.id ≡ l.id = ap (λ (p : List ℕ × LiveView I O). p.1.id) (same_some e (k, l) at) in
      let test : (e.1.id == l.id) ≡ true = grind (arith, nat_tests) in
      rw (test, untouched l.id f es (subst (λ (n : ℕ). IdsAbove n (core_entries es)) same_id rising.0)) refl
  update-live f (e ∷ es) (suc i) k l rising at =
      let apart : (e.1.id == l.id) ≡ false = (let lt : e.1.id < l.id = ids_above_at e.1.id es i k l rising.0 at in grind (arith, nat_tests)) in
      rw apart (ap (λ (xs : List (List ℕ × LiveView I O)). e ∷ xs) (update-live f es i k l rising.1 at))

-- A place with an entry is within the list.
pub place-within : {X : Type 0} (xs : List X) (i : ℕ) (x : X) → slice_get xs i ≡ Some x → i < length xs
place-within [] i x at = cc
place-within (y ∷ xs) zero x at = omega arith
place-within (y ∷ xs) (suc i) x at = omega (arith, place-within xs i x at)

-- One id is at one place.
pub one-place : {I O : Type 0} (es : List (List ℕ × LiveView I O)) (i j : ℕ) (k q : List ℕ) (a b : LiveView I O) → HasRisingIds es → slice_get es i ≡ Some (k, a) → slice_get es j ≡ Some (q, b) → a.id ≡ b.id → a ≡ b
one-place es i j k q a b rising at bt same = place_case (nat_lt i j) refl (nat_lt j i) refl
  where
    place_case : (x : Bool) → nat_lt i j ≡ x → (y : Bool) → nat_lt j i ≡ y → a ≡ b
    place_case true lt y other = absurd (let up = rising i j k q a b at bt (ltb-true i j lt) in omega (arith, up, same))
    place_case false lt true other = absurd (let up = rising j i q k b a bt at (ltb-true j i other) in omega (arith, up, same))
    place_case false lt false other =
        let here : i ≡ j = grind (arith, nat_tests, lt, other) in
        let both : Some (k, a) ≡ Some (q, b) = sym at ∙ (ap (slice_get es) here ∙ bt) in
        ap (λ (p : List ℕ × LiveView _ _). p.1) (same_some (k, a) (q, b) both)

-- A write at a place is an edit there.
pub set-update : {I O : Type 0} (es : List (List ℕ × LiveView I O)) (i : ℕ) (k : List ℕ) (v w : LiveView I O) (f : LiveView I O → LiveView I O) → slice_get es i ≡ Some (k, v) → w ≡ f v → set_value_at es i w ≡ update_at i f es
set-update [] i k v w f at is = refl
set-update (e ∷ es) zero k v w f at is = ap (λ (x : LiveView _ _). (e.0, x) ∷ es) (is ∙ ap (λ (p : List ℕ × LiveView _ _). f p.1) (sym (same_some e (k, v) at)))
set-update (e ∷ es) (suc i) k v w f at is = ap (λ (xs : List (List ℕ × LiveView _ _)). e ∷ xs) (set-update es i k v w f at is)

-- A write of the value that is there changes nothing.
pub set-same : {I O : Type 0} (es : List (List ℕ × LiveView I O)) (i : ℕ) (k : List ℕ) (v w : LiveView I O) → slice_get es i ≡ Some (k, v) → w ≡ v → set_value_at es i w ≡ es
set-same [] i k v w at is = refl
set-same (e ∷ es) zero k v w at is = ap (λ (x : LiveView _ _). (e.0, x) ∷ es) (is ∙ ap (λ (p : List ℕ × LiveView _ _). p.1) (sym (same_some e (k, v) at)))
set-same (e ∷ es) (suc i) k v w at is = ap (λ (xs : List (List ℕ × LiveView _ _)). e ∷ xs) (set-same es i k v w at is)

-- A pair of a new key goes last.
pub insert-new : {I O : Type 0} (es : List (List ℕ × LiveView I O)) (k : List ℕ) (v : LiveView I O) → found k es ≡ None → insert_entry bytes_eq es k v ≡ es ++ (k, v) ∷ []
insert-new [] k v none = refl
insert-new (e ∷ es) k v none = key_case (bytes_eq k e.0) none (insert-new es k v)
  where
    key_case : (b : Bool) → cond b (Some e.1) (found k es) ≡ None → (found k es ≡ None → insert_entry bytes_eq es k v ≡ es ++ (k, v) ∷ []) → cond b ((e.0, v) ∷ es) (e ∷ insert_entry bytes_eq es k v) ≡ e ∷ (es ++ (k, v) ∷ [])
    key_case true none ih = cc
    key_case false none ih = ap (λ (xs : List (List ℕ × LiveView _ _)). e ∷ xs) (ih none)

pub on_ok : {T E P Q : Type 0} (r : Result T E) → OnOk r P → (P → Q) → OnOk r Q
on_ok (Ok x) p f = f p
on_ok (Err e) p f = tt

pub on_err : {T E P Q : Type 0} (r : Result T E) → OnErr r P → (P → Q) → OnErr r Q
on_err (Ok x) p f = tt
on_err (Err e) p f = f p

pub if_ok : {T E : Type 0} {P Q : T → Type 0} (r : Result T E) → IfOk r P → ((x : T) → P x → Q x) → IfOk r Q
if_ok (Ok x) p f = f x p
if_ok (Err e) p f = tt
