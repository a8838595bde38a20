-- The pins of parts, and whether one is loose.
use Rattle.std.proofs.Common.{◌≡◌, ◌⊎◌, inl, inr, ℕ, suc, zero, ◌-◌, ◌<◌, arith, sym, ap, ◌∙◌, refl, List, [], ◌∷◌, ◌++◌, length, take, drop, set, get_or, append-nil, append_assoc, true, false}
use Rattle.std.proofs.lemmas.Bool.{or_cases, or_left, or_right}
use Rattle.std.proofs.lemmas.List.{take-append-le, length_push}
use Rattle.record_text.specs.Shifts.{put_at}
use Rattle.pin_table.specs.Covers.{PinName}
use Rattle.tree_laws.specs.Pairs.{PairOf}
use Rattle.folding_tree.specs.declared.part.Part.{Part}
use Rattle.folding_tree.specs.Levels.{part_pins, parts_pins, part_loose, parts_loose}

-- What is left when the first one of a list goes.
pub drop-first : {X : Type 0} (left : ℕ) (xs rest : List X) (x : X) → xs ≡ x ∷ rest → left < length xs → drop (length rest - left) rest ≡ drop (length xs - left) xs
drop-first left xs rest x is lt =
    let n = ap length is in
    let e : length (x ∷ rest) - left ≡ suc (length rest - left) = omega (arith, n, lt) in
    sym (ap (λ ys. drop (length ys - left) ys) is ∙ ap (λ k. drop k (x ∷ rest)) e)

-- What is left when the last one goes.
pub take-last : {X : Type 0} (kept : ℕ) (xs rest : List X) (x : X) → xs ≡ rest ++ x ∷ [] → kept < length xs → take kept rest ≡ take kept xs
take-last kept xs rest x is lt =
    let n = ap length is in
    let m = length_push rest x in
    sym (ap (take kept) is ∙ take-append-le kept rest (x ∷ []) (omega (arith, n, m, lt)))

module _ {J V M : Type 0} (digest_of : PairOf V → List ℕ) where
  pub pins-append : (xs ys : List (Part J V M)) → parts_pins digest_of (xs ++ ys) ≡ parts_pins digest_of xs ++ parts_pins digest_of ys
  pins-append [] ys = refl
  pins-append (x ∷ xs) ys = ap (λ (ps : List PinName). part_pins digest_of x ++ ps) (pins-append xs ys) ∙ sym (append_assoc (part_pins digest_of x) (parts_pins digest_of xs) (parts_pins digest_of ys))

  pub pins-push : (xs : List (Part J V M)) (x : Part J V M) → parts_pins digest_of (xs ++ x ∷ []) ≡ parts_pins digest_of xs ++ part_pins digest_of x
  pins-push xs x = pins-append xs (x ∷ []) ∙ ap (λ (ps : List PinName). parts_pins digest_of xs ++ ps) (append-nil (part_pins digest_of x))

module _ {J V M : Type 0} where
  pub loose-append : (xs ys : List (Part J V M)) → parts_loose (xs ++ ys) ≡ true → (parts_loose xs ≡ true) ⊎ (parts_loose ys ≡ true)
  loose-append [] ys h = inr h
  loose-append (x ∷ xs) ys h = elim (or_cases (part_loose x) (parts_loose (xs ++ ys)) h) [
    | inl a ↦ inl (or_left (part_loose x) (parts_loose xs) a)
    | inr b ↦ elim (loose-append xs ys b) [
      | inl c ↦ inl (or_right (part_loose x) (parts_loose xs) c)
      | inr d ↦ inr d
    ]
  ]

  pub loose-drop : (n : ℕ) (xs : List (Part J V M)) → parts_loose (drop n xs) ≡ true → parts_loose xs ≡ true
  loose-drop zero xs h = h
  loose-drop (suc n) [] h = h
  loose-drop (suc n) (x ∷ xs) h = or_right (part_loose x) (parts_loose xs) (loose-drop n xs h)

  pub loose-take : (n : ℕ) (xs : List (Part J V M)) → parts_loose (take n xs) ≡ true → parts_loose xs ≡ true
  loose-take zero [] h = h
  loose-take zero (x ∷ xs) h = absurd (let no : false ≡ true = h in cc)
  loose-take (suc n) [] h = h
  loose-take (suc n) (x ∷ xs) h = elim (or_cases (part_loose x) (parts_loose (take n xs)) h) [
    | inl a ↦ or_left (part_loose x) (parts_loose xs) a
    | inr b ↦ or_right (part_loose x) (parts_loose xs) (loose-take n xs b)
  ]

  pub loose-set : (xs : List (Part J V M)) (i : ℕ) (y : Part J V M) → parts_loose (set xs i y) ≡ true → (part_loose y ≡ true) ⊎ (parts_loose xs ≡ true)
  loose-set [] i y h = inr h
  loose-set (x ∷ xs) zero y h = elim (or_cases (part_loose y) (parts_loose xs) h) [
    | inl a ↦ inl a
    | inr b ↦ inr (or_right (part_loose x) (parts_loose xs) b)
  ]
  loose-set (x ∷ xs) (suc i) y h = elim (or_cases (part_loose x) (parts_loose (set xs i y)) h) [
    | inl a ↦ inr (or_left (part_loose x) (parts_loose xs) a)
    | inr b ↦ elim (loose-set xs i y b) [
      | inl c ↦ inl c
      | inr d ↦ inr (or_right (part_loose x) (parts_loose xs) d)
    ]
  ]

  pub loose-put : (ps : List ℕ) (news xs : List (Part J V M)) → parts_loose (put_at ps news xs) ≡ true → (parts_loose news ≡ true) ⊎ (parts_loose xs ≡ true)
  loose-put [] news xs h = inr h
  loose-put (p ∷ ps) [] xs h = inr h
  loose-put (p ∷ ps) (y ∷ news) xs h = elim (loose-put ps news (set xs p y) h) [
    | inl a ↦ inl (or_right (part_loose y) (parts_loose news) a)
    | inr b ↦ elim (loose-set xs p y b) [
      | inl c ↦ inl (or_left (part_loose y) (parts_loose news) c)
      | inr d ↦ inr d
    ]
  ]

-- One part of a list replaces another: its pins come, and the other's leave.
module _ {J V M : Type 0} (digest_of : PairOf V → List ℕ) where
  pub pins-set : (xs : List (Part J V M)) (i : ℕ) (old new : Part J V M) → i < length xs → old ≡ get_or xs i old → (hs : List PinName) × (bs : List PinName) × (parts_pins digest_of xs ≡ hs ++ (part_pins digest_of old ++ bs)) × (parts_pins digest_of (set xs i new) ≡ hs ++ (part_pins digest_of new ++ bs))
  pins-set [] i old new lt is = absurd (omega (arith, lt))
  pins-set (x ∷ xs) zero old new lt is = ([], parts_pins digest_of xs, ap (λ (p : Part J V M). part_pins digest_of p ++ parts_pins digest_of xs) (sym is), refl)
  pins-set (x ∷ xs) (suc i) old new lt is =
      let rest = pins-set xs i old new (omega (arith, lt)) is in
      let own = part_pins digest_of x in (
        own ++ rest.0,
        rest.1,
        ap (λ (ps : List PinName). own ++ ps) rest.2 ∙ sym (append_assoc own rest.0 (part_pins digest_of old ++ rest.1)),
        ap (λ (ps : List PinName). own ++ ps) rest.3 ∙ sym (append_assoc own rest.0 (part_pins digest_of new ++ rest.1)),
      )
