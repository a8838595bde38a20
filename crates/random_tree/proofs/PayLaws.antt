-- How calls pay one after another, and that inputs which a list lacks pay for the rest.
use Rattle.std.proofs.Common.{◌≡◌, ◌⊎◌, inl, inr, ℕ, suc, zero, ◌+◌, ◌*◌, ◌≤◌, true, false, cond, ◌||◌, List, [], ◌∷◌, ◌++◌, length, refl, sym, subst, ◌∙◌, arith, length-append}
use Rattle.std.specs.Prelude.{Contains}
use Rattle.std.specs.List.{list_any}
use Rattle.std.specs.Str.{bytes_eq}
use Rattle.std.proofs.lemmas.List.Elements.{Contains-append_left, Contains-append_right}
use Rattle.std.proofs.lemmas.Slice.Eq.{bytes_eq-Decides}
use Rattle.std.proofs.Math.Nat.{mul-le-mul_left}
use Rattle.job_laws.specs.declared.meter.Counts.{Counts}
use Rattle.job_laws.specs.Counted.{RoseBy}
use Rattle.job_laws.proofs.CountLaws.{rose_none, rose_then, rose_more}
use Rattle.pin_table.specs.Views.{CallerView}
use Rattle.pin_table.specs.Covers.{IsLater, Got}
use Rattle.pin_table.specs.OwnEvents.{IsKnown}
use Rattle.pin_table.proofs.OwnEvents.{any-met-later, any-met-before}
use Rattle.pin_table.proofs.Knowing.{known-got}
use Rattle.random_tree.specs.Inputs.{lacked}
use Rattle.random_tree.specs.Payments.{Covers, Pays, PaidBy, Merged, MergedSome}

module _ {X : Type 0} where
  -- The list without one member, which still has the others.
  abbrev Without : List X → X → List X → Type 0
  Without list x rest = (length rest + 1 ≡ length list) × ((y : X) → Contains list y → (y ≡ x) ⊎ Contains rest y)

  pub contains_head : (x : X) (xs : List X) → Contains (x ∷ xs) x
  contains_head x xs = (0, omega arith, refl)

  pub contains_tail : (x y : X) (xs : List X) → Contains xs y → Contains (x ∷ xs) y
  contains_tail x y xs (k, lt, e) = (suc k, omega (arith, lt), e)

  pub contains_cons : (x y : X) (xs : List X) → Contains (x ∷ xs) y → (x ≡ y) ⊎ Contains xs y
  contains_cons x y xs (zero, lt, e) = inl e
  contains_cons x y xs (suc k, lt, e) = inr (k, omega (arith, lt), e)

  without : (list : List X) (x : X) → Contains list x → (rest : List X) × Without list x rest
  without [] x (k, lt, e) = absurd (omega (arith, lt))
  without (z ∷ zs) x (zero, lt, e) = (zs, (omega arith, λ y c. elim (contains_cons z y zs c) [ inl f ↦ inl (sym f ∙ e) | inr d ↦ inr d ]))
  without (z ∷ zs) x (suc k, lt, e) =
      let (rest, w) = without zs x (k, omega (arith, lt), e) in
      (z ∷ rest, (omega (arith, w.0), λ y c. elim (contains_cons z y zs c) [ inl f ↦ inr (0, omega arith, f) | inr d ↦ elim (w.1 y d) [ inl g ↦ inl g | inr m ↦ inr (contains_tail z y rest m) ] ]))

  pub pays-none : (known then : X → Type 0) (before after : ℕ) (xs : List X) → after ≤ before → ((x : X) → known x → then x) → Pays known before then after xs
  pays-none known then before after xs le keeps list covers = (list, (omega (arith, le), λ x c. elim c [ inl k ↦ inl (keeps x k) | inr m ↦ inr m ]))

  pub pays-one : (known then : X → Type 0) (before after : ℕ) (x : X) → after ≤ before + 1 → (known x → after ≤ before) → ((y : X) → known y → then y) → then x → Pays known before then after (x ∷ [])
  pays-one known then before after x one free keeps gains list covers =
      elim (covers x (contains_head x [])) [
        | inl k ↦ (list, (omega (arith, free k), λ y c. elim c [ inl m ↦ inl (keeps y m) | inr m ↦ inr m ]))
        | inr m ↦ let (rest, w) = without list x m in (rest, (omega (arith, one, w.0), λ y c. elim c [ inl k ↦ inl (keeps y k) | inr d ↦ elim (w.1 y d) [ inl e ↦ inl (subst then (sym e) gains) | inr n ↦ inr n ] ]))
      ]

  pub paid-one : (known : X → Type 0) (before after : ℕ) (x : X) → after ≤ before + 1 → (known x → after ≤ before) → PaidBy known before after (x ∷ [])
  paid-one known before after x one free list covers =
      elim (covers x (contains_head x [])) [
        | inl k ↦ omega (arith, free k)
        | inr m ↦ let (rest, w) = without list x m in omega (arith, one, w.0)
      ]

  pub pays-then : (known0 known1 known2 : X → Type 0) (a b c : ℕ) (xs ys : List X) → Pays known0 a known1 b xs → Pays known1 b known2 c ys → Pays known0 a known2 c (xs ++ ys)
  pays-then known0 known1 known2 a b c xs ys p q list covers =
      let (list1, l) = p list (λ x k. covers x (Contains-append_left xs ys x k)) in
      let (list2, m) = q list1 (λ x k. l.1 x (covers x (Contains-append_right xs ys x k))) in
      (list2, (omega (arith, l.0, m.0), λ x k. m.1 x (l.1 x k)))

  pub paid-then : (known0 known1 : X → Type 0) (a b c : ℕ) (xs ys : List X) → Pays known0 a known1 b xs → PaidBy known1 b c ys → PaidBy known0 a c (xs ++ ys)
  paid-then known0 known1 a b c xs ys p q list covers =
      let (list1, l) = p list (λ x k. covers x (Contains-append_left xs ys x k)) in
      omega (arith, l.0, q list1 (λ x k. l.1 x (covers x (Contains-append_right xs ys x k))))

  -- More inputs pay as well.
  pub pays-more : (known then : X → Type 0) (a b : ℕ) (xs ys : List X) → ((x : X) → Contains xs x → Contains ys x) → Pays known a then b xs → Pays known a then b ys
  pays-more known then a b xs ys more p list covers = p list (λ x k. covers x (more x k))

  pub paid-more : (known : X → Type 0) (a b : ℕ) (xs ys : List X) → ((x : X) → Contains xs x → Contains ys x) → PaidBy known a b xs → PaidBy known a b ys
  paid-more known a b xs ys more p list covers = p list (λ x k. covers x (more x k))

  pub pays-paid : (known then : X → Type 0) (a b : ℕ) (xs : List X) → Pays known a then b xs → PaidBy known a b xs
  pays-paid known then a b xs p list covers = let (rest, l) = p list covers in omega (arith, l.0)

  contains-middle : (cs xs bs : List X) (x : X) → Contains xs x → Contains (cs ++ (xs ++ bs)) x
  contains-middle cs xs bs x k = Contains-append_right cs (xs ++ bs) x (Contains-append_left xs bs x k)

-- Counts.

rose-within : (n m keys : ℕ) (x y : Counts) → n ≤ m → RoseBy 0 n (n * keys) x y → RoseBy 0 m (m * keys) x y
rose-within n m keys x y le a = rose_more 0 n (n * keys) 0 m (m * keys) x y (omega arith) le (let h = mul-le-mul_left keys le in omega (arith, h)) a

rose-both : (n m k keys : ℕ) (x y z : Counts) → k ≡ n + m → RoseBy 0 n (n * keys) x y → RoseBy 0 m (m * keys) y z → RoseBy 0 k (k * keys) x z
rose-both n m k keys x y z is a b = subst (λ (i : ℕ). RoseBy 0 i (i * keys) x z) (sym is) (rose_more 0 (n + m) (n * keys + m * keys) 0 (n + m) ((n + m) * keys) x z (omega arith) (omega arith) (omega arith) (rose_then 0 n (n * keys) 0 m (m * keys) x y z a b))

-- Merges.

pub merged-none : (keys : ℕ) (u v : CallerView) (x : Counts) (ds : List (List ℕ)) → Got u [] v → Merged keys u v x x ds
merged-none keys u v x ds got = record {
  counted = rose_more 0 0 0 0 (length ds) (length ds * keys) x x (omega arith) (omega arith) (omega arith) (rose_none x);
  pays = λ clean. pays-none (λ d. IsKnown d u) (λ d. IsKnown d v) x.merges x.merges ds (omega arith) (λ d k. known-got d u v [] got k);
}

pub merged-then : (keys : ℕ) (u v w : CallerView) (x y z : Counts) (ds es : List (List ℕ)) → IsLater u v → IsLater v w → Merged keys u v x y ds → Merged keys v w y z es → Merged keys u w x z (ds ++ es)
merged-then keys u v w x y z ds es a b m n = record {
  counted = rose-both (length ds) (length es) (length (ds ++ es)) keys x y z (length-append ds es) m.counted n.counted;
  pays = λ clean. pays-then (λ d. IsKnown d u) (λ d. IsKnown d v) (λ d. IsKnown d w) x.merges y.merges z.merges ds es (m.pays (λ met. clean (any-met-later u v w b met))) (n.pays (λ met. clean (any-met-before u v w a b met)));
}

pub merged-some : (keys : ℕ) (u v w : CallerView) (x y z : Counts) (ds es : List (List ℕ)) → IsLater u v → IsLater v w → Merged keys u v x y ds → MergedSome keys v w y z es → MergedSome keys u w x z (ds ++ es)
merged-some keys u v w x y z ds es a b m n = record {
  counted = rose-both (length ds) (length es) (length (ds ++ es)) keys x y z (length-append ds es) m.counted n.counted;
  paid = λ clean. paid-then (λ d. IsKnown d u) (λ d. IsKnown d v) x.merges y.merges z.merges ds es (m.pays (λ met. clean (any-met-later u v w b met))) (n.paid (λ met. clean (any-met-before u v w a b met)));
}

-- Nothing more was merged, and then memory ran out.
pub some-none : (keys : ℕ) (u v : CallerView) (x : Counts) (ds : List (List ℕ)) → MergedSome keys u v x x ds
some-none keys u v x ds = record {
  counted = rose_more 0 0 0 0 (length ds) (length ds * keys) x x (omega arith) (omega arith) (omega arith) (rose_none x);
  paid = λ clean list covers. omega arith;
}

-- Merged inputs among others.
pub merged-among : (keys : ℕ) (u v : CallerView) (x y : Counts) (cs ds bs : List (List ℕ)) → Merged keys u v x y ds → Merged keys u v x y (cs ++ (ds ++ bs))
merged-among keys u v x y cs ds bs m = record {
  counted = rose-within (length ds) (length (cs ++ (ds ++ bs))) keys x y (let a = length-append cs (ds ++ bs) in let b = length-append ds bs in omega (arith, a, b)) m.counted;
  pays = λ clean. pays-more (λ d. IsKnown d u) (λ d. IsKnown d v) x.merges y.merges ds (cs ++ (ds ++ bs)) (contains-middle cs ds bs) (m.pays clean);
}

pub some-among : (keys : ℕ) (u v : CallerView) (x y : Counts) (cs ds bs : List (List ℕ)) → MergedSome keys u v x y ds → MergedSome keys u v x y (cs ++ (ds ++ bs))
some-among keys u v x y cs ds bs m = record {
  counted = rose-within (length ds) (length (cs ++ (ds ++ bs))) keys x y (let a = length-append cs (ds ++ bs) in let b = length-append ds bs in omega (arith, a, b)) m.counted;
  paid = λ clean. paid-more (λ d. IsKnown d u) x.merges y.merges ds (cs ++ (ds ++ bs)) (contains-middle cs ds bs) (m.paid clean);
}

pub merged-is-some : (keys : ℕ) (u v : CallerView) (x y : Counts) (ds : List (List ℕ)) → Merged keys u v x y ds → MergedSome keys u v x y ds
merged-is-some keys u v x y ds m = record {
  counted = m.counted;
  paid = λ clean. pays-paid (λ d. IsKnown d u) (λ d. IsKnown d v) x.merges y.merges ds (m.pays clean);
}

-- Inputs that an old list lacks.

same_bytes : (d e : List ℕ) → bytes_eq d e ≡ true → d ≡ e
same_bytes d e is = (bytes_eq-Decides d e).0 is

stands-contains : (d : List ℕ) (ds : List (List ℕ)) → list_any (bytes_eq d) ds ≡ true → Contains ds d
stands-contains d [] is = absurd (let no : false ≡ true = is in cc)
stands-contains d (e ∷ ds) is = elim (bytes_eq d e) as (λ b. bytes_eq d e ≡ b → (b || list_any (bytes_eq d) ds) ≡ true → Contains (e ∷ ds) d) [
  | true ↦ λ same any. subst (Contains (e ∷ ds)) (sym (same_bytes d e same)) (contains_head e ds)
  | false ↦ λ same any. contains_tail e d ds (stands-contains d ds any)
] refl is

-- Each input of the new list is an old one or a fresh one.
fresh-covers : (old new : List (List ℕ)) (d : List ℕ) → Contains new d → Contains old d ⊎ Contains (lacked old new) d
fresh-covers old [] d (k, lt, e) = absurd (omega (arith, lt))
fresh-covers old (e ∷ new) d c = elim (list_any (bytes_eq e) old) as (λ b. list_any (bytes_eq e) old ≡ b → Contains old d ⊎ Contains (cond b (lacked old new) (e ∷ lacked (e ∷ old) new)) d) [
  | true ↦ λ is. elim (contains_cons e d new c) [
    | inl same ↦ inl (subst (Contains old) same (stands-contains e old is))
    | inr more ↦ fresh-covers old new d more
  ]
  | false ↦ λ is. elim (contains_cons e d new c) [
    | inl same ↦ inr (subst (Contains (e ∷ lacked (e ∷ old) new)) same (contains_head e (lacked (e ∷ old) new)))
    | inr more ↦ elim (fresh-covers (e ∷ old) new d more) [
      | inl o ↦ elim (contains_cons e d old o) [
        | inl same ↦ inr (subst (Contains (e ∷ lacked (e ∷ old) new)) same (contains_head e (lacked (e ∷ old) new)))
        | inr p ↦ inl p
      ]
      | inr f ↦ inr (contains_tail e d (lacked (e ∷ old) new) f)
    ]
  ]
] refl

-- If each old input is known, the fresh ones cover the new list.
pub fresh-pays : (known : List ℕ → Type 0) (old new : List (List ℕ)) → ((d : List ℕ) → Contains old d → known d) → Covers known (lacked old new) new
fresh-pays known old new held d c = elim (fresh-covers old new d c) [ inl o ↦ inl (held d o) | inr f ↦ inr f ]
