-- A level over one that has its draft: what stays there stays here, and everything else is made again.
use Rattle.std.proofs.Common.{◌≡◌, ◌⊎◌, inl, inr, ℕ, suc, zero, ◌+◌, ◌-◌, ◌*◌, ◌/◌, ◌%◌, ◌^◌, ◌<◌, ◌≤◌, arith, sym, ap, ◌∙◌, refl, subst, List, [], ◌∷◌, length, get_or, Option, Some, None}
use native.Mathlib.Nat.{pow-suc}
use Rattle.std.specs.List.{slice_get, AllZip}
use Rattle.std.specs.Option.{option_map}
use Rattle.std.proofs.lemmas.Bool.{cases_lt, cases_eq}
use Rattle.std.proofs.lemmas.List.{length_push, get_or_push, get_or_append_left, get_or_default}
use Rattle.std.proofs.lemmas.List.Elements.{All-weaker}
use Rattle.std.proofs.lemmas.Slice.Zip.{AllZip-long}
use Rattle.sheets.specs.Sheets.{SheetOf}
use Rattle.folding_tree.specs.declared.part.Part.{Part}
use Rattle.folding_tree.specs.declared.part.Part.TheVariants.{Shared}
use Rattle.folding_tree.specs.Levels.{Row, Ahead, part_at, sheet_at, part_sheet, IsMade, IsOver, row_after, IsFit, IsRaised, IsAligned, places_from}
use Rattle.folding_tree.proofs.ListLaws.{found_or_not}
use Rattle.folding_tree.proofs.RowLaws.{at-before, at-behind, at-past, after-outside, after-kept, after-changed, after-fresh}

pub length-places_from : (low n : ℕ) → length (places_from low n) ≡ n
length-places_from low zero = refl
length-places_from low (suc n) = length_push (places_from low n) (low + n) ∙ (let h = length-places_from low n in omega (arith, h))

pub get-places_from : (low n i : ℕ) → i < n → get_or (places_from low n) i 0 ≡ low + i
get-places_from low zero i lt = absurd (omega (arith, lt))
get-places_from low (suc n) i lt = elim (cases_eq i n) [
  | inl e ↦ get_or_push (places_from low n) (low + n) 0 i (length-places_from low n ∙ sym e) ∙ ap (λ (k : ℕ). low + k) (sym e)
  | inr off ↦
      let less : i < n = omega (arith, lt, off) in
      get_or_append_left (places_from low n) ((low + n) ∷ []) 0 i (let h = length-places_from low n in omega (arith, h, less)) ∙ get-places_from low n i less
]

-- The item that is next to another one.
pub zip-at : {Y : Type 0} (R : ℕ → Y → Type 0) (xs : List ℕ) (ys : List Y) → AllZip R xs ys → (i : ℕ) → i < length xs → (y : Y) × (slice_get ys i ≡ Some y) × R (get_or xs i 0) y
zip-at R [] ys z i lt = absurd (omega (arith, lt))
zip-at R (x ∷ xs) [] z i lt = absurd z
zip-at R (x ∷ xs) (y ∷ ys) z zero lt = (y, refl, z.0)
zip-at R (x ∷ xs) (y ∷ ys) z (suc i) lt = zip-at R xs ys z.1 i (omega (arith, lt))

get-none : {X : Type 0} (xs : List X) (i : ℕ) → slice_get xs i ≡ None → length xs ≤ i
get-none [] i e = omega arith
get-none (x ∷ xs) zero e = absurd (let no : Some x ≡ None = e in cc)
get-none (x ∷ xs) (suc i) e = let h = get-none xs i e in omega (arith, h)

map-none : {X Y : Type 0} (f : X → Y) (o : Option X) → option_map f o ≡ None → o ≡ None
map-none f None e = refl
map-none f (Some x) e = absurd (let no : Some (f x) ≡ None = e in cc)

module _ {J V M : Type 0} where
  -- A place between both ends has a node.
  pub at-there : (row : Row J V M) (place : ℕ) → row.low ≤ place → place < row.low + length row.parts → part_at row place ≡ None → ⊥
  at-there row place le lt none =
      let past = get-none row.parts (place - row.low) (sym (at-behind row place le) ∙ none) in
      omega (arith, past, le, lt)

module _ {V : Type 0} (J M : Type 0) (joined : ℕ → V → V → V) where
  pub made-none : (a b : Option (SheetOf V)) → IsMade {J = J} {V = V} {M = M} joined a b None → (a ≡ None) × (b ≡ None)
  made-none None None h = (refl, refl)
  made-none None (Some b) h = absurd (let no : ◌≡◌ {A = Option (Part J V M)} None (Some (Shared b)) = h in cc)
  made-none (Some a) None h = absurd (let no : ◌≡◌ {A = Option (Part J V M)} None (Some (Shared a)) = h in cc)
  made-none (Some a) (Some b) h = absurd h

module _ {J V M : Type 0} (joined : ℕ → V → V → V) where
  pub made-of_none : (a b : Option (SheetOf V)) (made : Option (Part J V M)) → a ≡ None → b ≡ None → IsMade joined a b made → made ≡ None
  made-of_none None None made x y h = h
  made-of_none None (Some b) made x y h = absurd (let no : Some b ≡ None = y in cc)
  made-of_none (Some a) b made x y h = absurd (let no : Some a ≡ None = x in cc)

  pub same-made : (a c b d : Option (SheetOf V)) (made like : Option (Part J V M)) → a ≡ c → b ≡ d → made ≡ like → IsMade joined c d like → IsMade joined a b made
  same-made a c b d made like p q r h =
      subst (λ (x : Option (SheetOf V)). IsMade joined x b made) (sym p)
      (subst (λ (y : Option (SheetOf V)). IsMade joined c y made) (sym q)
      (subst (λ (z : Option (Part J V M)). IsMade joined c d z) (sym r) h))

  module _ (below above : Row J V M) (over : IsOver joined below above) where
    -- The last node below has a node over it.
    pub over-least : 0 < length below.parts → (below.low + length below.parts + 1) / 2 ≤ above.low + length above.parts
    over-least some = elim (cases_lt ((below.low + length below.parts - 1) / 2) (above.low + length above.parts)) [
      | inl lt ↦ omega (arith, lt, some)
      | inr past ↦ absurd (missing past)
    ]
      where
        missing : above.low + length above.parts ≤ (below.low + length below.parts - 1) / 2 → ⊥
        missing past =
            let last : ℕ = below.low + length below.parts - 1 in
            let none : part_at above (last / 2) ≡ None = at-past above (last / 2) past in
            let both = made-none J M joined (sheet_at below (2 * (last / 2))) (sheet_at below (2 * (last / 2) + 1)) (subst (λ (z : Option (Part J V M)). IsMade joined (sheet_at below (2 * (last / 2))) (sheet_at below (2 * (last / 2) + 1)) z) none (over.made (last / 2))) in
            let here : part_at below last ≡ None = elim (cases_eq (2 * (last / 2)) last) [
              | inl e ↦ subst (λ (place : ℕ). part_at below place ≡ None) e (map-none part_sheet (part_at below (2 * (last / 2))) both.0)
              | inr off ↦
                  let e : 2 * (last / 2) + 1 ≡ last = omega (arith, off) in
                  subst (λ (place : ℕ). part_at below place ≡ None) e (map-none part_sheet (part_at below (2 * (last / 2) + 1)) both.1)
            ] in
            at-there below last (omega (arith, some)) (omega (arith, some)) here

    -- The last node above has a node below it.
    pub over-most : 0 < length above.parts → above.low + length above.parts ≤ (below.low + length below.parts + 1) / 2
    over-most some = elim (cases_lt (2 * (above.low + length above.parts - 1)) (below.low + length below.parts)) [
      | inl lt ↦ omega (arith, lt, some)
      | inr past ↦ absurd (missing past)
    ]
      where
        missing : below.low + length below.parts ≤ 2 * (above.low + length above.parts - 1) → ⊥
        missing past =
            let last : ℕ = above.low + length above.parts - 1 in
            let left : sheet_at below (2 * last) ≡ None = ap (option_map part_sheet) (at-past below (2 * last) past) in
            let right : sheet_at below (2 * last + 1) ≡ None = ap (option_map part_sheet) (at-past below (2 * last + 1) (omega (arith, past))) in
            at-there above last (omega (arith, some)) (omega (arith, some)) (made-of_none (sheet_at below (2 * last)) (sheet_at below (2 * last + 1)) (part_at above last) left right (over.made last))

    pub over-empty : length below.parts ≡ 0 → length above.parts ≡ 0
    over-empty none = elim (cases_eq (length above.parts) 0) [
      | inl e ↦ e
      | inr off ↦ absurd (missing (omega (arith, off)))
    ]
      where
        missing : 0 < length above.parts → ⊥
        missing some =
            let last : ℕ = above.low + length above.parts - 1 in
            let nothing : (place : ℕ) → sheet_at below place ≡ None = λ place. ap (option_map part_sheet) (elim (cases_lt place below.low) [
              | inl lt ↦ at-before below place lt
              | inr le ↦ at-past below place (omega (arith, le, none))
            ]) in
            at-there above last (omega (arith, some)) (omega (arith, some)) (made-of_none (sheet_at below (2 * last)) (sheet_at below (2 * last + 1)) (part_at above last) (nothing (2 * last)) (nothing (2 * last + 1)) (over.made last))

even_move : (j x : ℕ) → j * (x * 2) ≡ 2 * (j * x)
even_move j x = grind arith

module _ {J V M : Type 0} (joined : ℕ → V → V → V) (folded k : ℕ) (row over_row : Row J V M) (ahead above : Ahead J V M)
    (aligned : IsAligned folded k row ahead) (raised : IsRaised joined row ahead above) (over : k < folded → IsOver joined row over_row) (grows : (k < folded) ⊎ (ahead.mid < ahead.high)) where
  within-folded : above.low < above.mid → k < folded
  within-folded some = elim grows [
    | inl lt ↦ lt
    | inr more ↦ elim (cases_lt k folded) [
      | inl lt ↦ lt
      | inr top ↦
          let none : folded - k ≡ 0 = omega (arith, top) in
          let one : 2 ^ (folded - k) ≡ 1 = ap (λ (e : ℕ). 2 ^ e) none in
          let small = aligned.small in
          elim raised.mid [
            | inl h ↦ (let a = h.1 in absurd (omega (arith, a, one, small, some)))
            | inr h ↦ (let a = h.0 in absurd (omega (arith, a, more)))
          ]
    ]
  ]

  some-stay : above.low < above.mid → ahead.low < ahead.mid
  some-stay some = elim (cases_lt ahead.low ahead.mid) [
    | inl lt ↦ lt
    | inr le ↦
        let low = raised.low in
        let kept = aligned.fit.kept in
        elim raised.mid [
          | inl h ↦ (let a = h.1 in absurd (omega (arith, a, low, some, le, kept)))
          | inr h ↦
              let a = h.0 in
              let b = h.1 in
              let c = raised.high in
              let same : ahead.low ≡ ahead.high = omega (arith, a, le, kept) in
              let nil = aligned.none same in
              absurd (omega (arith, a, b, c, low, some, same, nil))
        ]
  ]

  -- What stays moves by an even number of places.
  moved : above.low < above.mid → (t : ℕ) × (ahead.from ≡ ahead.low + 2 * t) × ((j : ℕ) × (t ≡ j * 2 ^ (folded - suc k)))
  moved some =
      let lt = within-folded some in
      let way = (aligned.stays (some-stay some)).2 in
      let e : folded - k ≡ suc (folded - suc k) = omega (arith, lt) in
      let twice : 2 ^ (folded - k) ≡ 2 ^ (folded - suc k) * 2 = ap (λ (n : ℕ). 2 ^ n) e ∙ pow-suc 2 (folded - suc k) in
      let all : ahead.from ≡ ahead.low + 2 * (way.0 * 2 ^ (folded - suc k)) = way.1 ∙ ap (λ (x : ℕ). ahead.low + way.0 * x) twice ∙ ap (λ (x : ℕ). ahead.low + x) (even_move way.0 (2 ^ (folded - suc k))) in
      (way.0 * 2 ^ (folded - suc k), all, (way.0, refl))

  some-row : above.low < above.mid → 0 < length row.parts
  some-row some =
      let st = aligned.stays (some-stay some) in
      let a = st.0 in
      let b = st.1 in
      let c = some-stay some in
      omega (arith, a, b, c)

  stays-over : above.low < above.mid → (over_row.low ≤ above.from) × (above.from + (above.mid - above.low) ≤ over_row.low + length over_row.parts)
  stays-over some =
      let st = aligned.stays (some-stay some) in
      let a = st.0 in
      let b = st.1 in
      let lt = some-stay some in
      let up = over (within-folded some) in
      let low = up.low in
      let least = over-least joined row over_row up (some-row some) in
      let mv = moved some in
      let t = mv.0 in
      let is = mv.1 in
      let from = raised.from in
      let rl = raised.low in (
        omega (arith, a, low, from),
        elim raised.mid [
          | inl h ↦ (let m = h.1 in omega (arith, a, b, lt, low, least, is, from, rl, m, some))
          | inr h ↦ (let e = h.0 in let m = h.1 in let g = raised.high in omega (arith, a, b, lt, low, least, is, from, rl, e, m, g, some))
        ],
      )

  last-over : above.low < above.mid → above.mid ≡ above.high → above.from + (above.mid - above.low) ≡ over_row.low + length over_row.parts
  last-over some all =
      let st = aligned.stays (some-stay some) in
      let a = st.0 in
      let lt = some-stay some in
      let up = over (within-folded some) in
      let low = up.low in
      let least = over-least joined row over_row up (some-row some) in
      let more = stays-over some in
      let m0 = more.0 in
      let m1 = more.1 in
      let most = over-most joined row over_row up (omega (arith, m0, m1, some)) in
      let mv = moved some in
      let is = mv.1 in
      let from = raised.from in
      let rl = raised.low in
      let g = raised.high in
      elim raised.mid [
        | inl h ↦ (let x = h.0 in let m = h.1 in absurd (omega (arith, x, m, g, all)))
        | inr h ↦
            let e = h.0 in
            let m = h.1 in
            let end = aligned.last lt e in
            omega (arith, a, lt, least, most, is, from, rl, g, e, m, end, some)
      ]

  small-over : above.mid ≤ 2 ^ (folded - suc k)
  small-over = elim (cases_lt k folded) [
    | inl lt ↦
        let e : folded - k ≡ suc (folded - suc k) = omega (arith, lt) in
        let twice : 2 ^ (folded - k) ≡ 2 ^ (folded - suc k) * 2 = ap (λ (n : ℕ). 2 ^ n) e ∙ pow-suc 2 (folded - suc k) in
        let small = aligned.small in
        elim raised.mid [
          | inl h ↦ (let m = h.1 in omega (arith, small, twice, m))
          | inr h ↦ (let a = h.0 in let m = h.1 in let g = raised.high in omega (arith, small, twice, a, m, g))
        ]
    | inr top ↦
        let none : folded - k ≡ 0 = omega (arith, top) in
        let again : folded - suc k ≡ 0 = omega (arith, top) in
        let one : 2 ^ (folded - k) ≡ 1 = ap (λ (e : ℕ). 2 ^ e) none in
        let other : 2 ^ (folded - suc k) ≡ 1 = ap (λ (e : ℕ). 2 ^ e) again in
        let small = aligned.small in
        elim raised.mid [
          | inl h ↦ (let m = h.1 in omega (arith, small, one, other, m))
          | inr h ↦ elim grows [
            | inl lt ↦ absurd (omega (arith, lt, top))
            | inr more ↦ (let a = h.0 in absurd (omega (arith, a, more)))
          ]
        ]
  ]

  mid-high : above.mid ≤ above.high
  mid-high =
      let g = raised.high in
      elim raised.mid [
        | inl h ↦ (let x = h.0 in let m = h.1 in omega (arith, x, m, g))
        | inr h ↦ (let m = h.1 in omega (arith, m))
      ]

  low-mid : above.low ≤ above.mid
  low-mid =
      let kept = aligned.fit.kept in
      let rl = raised.low in
      let g = raised.high in
      elim raised.mid [
        | inl h ↦ (let m = h.1 in omega (arith, m, rl, kept))
        | inr h ↦ (let a = h.0 in let m = h.1 in omega (arith, a, m, rl, g, kept))
      ]

  abbrev after : Row J V M
  after = row_after row ahead

  abbrev Made : ℕ → Part J V M → Type 0
  Made place part = IsMade joined (sheet_at after (2 * place)) (sheet_at after (2 * place + 1)) (Some part)

  fit-over : IsFit over_row above
  fit-over = record {
    kept = low-mid;
    fresh =
        let n = AllZip-long Made (places_from above.mid (above.high - above.mid)) above.fresh raised.fresh in
        let m = length-places_from above.mid (above.high - above.mid) in
        let le = mid-high in
        omega (arith, n, m, le);
    enough = elim (cases_lt above.low above.mid) [
      | inl some ↦ (let st = stays-over some in let a = st.0 in let b = st.1 in omega (arith, a, b))
      | inr none ↦ omega (arith, none)
    ];
    within = All-weaker (λ (place : ℕ). (ahead.low / 2 ≤ place) × (place < above.mid)) (λ (place : ℕ). (above.low ≤ place) × (place < above.mid)) (λ place h. (let a = h.0 in let rl = raised.low in omega (arith, a, rl), h.1)) above.places raised.parents.within;
    rising = raised.parents.rising;
    changed = AllZip-long Made above.places above.changed raised.changed;
  }

  -- The level over it has its draft.
  pub raised-aligned : IsAligned folded (suc k) over_row above
  raised-aligned = record {
    fit = fit-over;
    stays = λ some.
        let st = stays-over some in
        let mv = moved some in
        let is = mv.1 in
        let from = raised.from in
        let rl = raised.low in
        let way = mv.2 in
        (st.0, st.1, (way.0, (let half : above.from ≡ above.low + mv.0 = omega (arith, is, from, rl) in half ∙ ap (λ (x : ℕ). above.low + x) way.1)));
    last = last-over;
    small = small-over;
    none = λ same.
        let kept = aligned.fit.kept in
        let fresh = aligned.fit.fresh in
        let rl = raised.low in
        let g = raised.high in
        let all : ahead.low ≡ ahead.high = omega (arith, same, rl, g, kept, fresh) in
        let nil = aligned.none all in
        omega (arith, rl, nil);
  }

  -- A place below one that stays: what is there stays too.
  below-stays : (t : ℕ) → ahead.from ≡ ahead.low + 2 * t → (q : ℕ) → above.low ≤ q → q < above.mid → ((i : ℕ) → i < length above.places → get_or above.places i 0 ≡ q → ⊥) → (place : ℕ) → (place ≡ 2 * q) ⊎ (place ≡ 2 * q + 1) → part_at after place ≡ part_at row (place + 2 * t)
  below-stays t is q le lt off place which =
      let some : above.low < above.mid = omega (arith, le, lt) in
      let st = aligned.stays (some-stay some) in
      let a = st.0 in
      let b = st.1 in
      let rl = raised.low in
      let half : place / 2 ≡ q = elim which [ inl e ↦ omega (arith, e) | inr e ↦ omega (arith, e) ] in
      elim (cases_lt place ahead.low) [
        | inl before ↦ elim (cases_eq row.low ahead.from) [
          | inl same ↦ after-outside row ahead aligned.fit place (inl before) ∙ sym (at-before row (place + 2 * t) (omega (arith, before, same, is)))
          | inr gone ↦
              let odd : ahead.low % 2 ≡ 1 = omega (arith, before, half, le, rl) in
              let here = raised.parents.first (omega (arith, a, gone)) odd (omega (arith, rl, some)) in
              let at : get_or above.places here.0 0 ≡ ahead.low / 2 = get_or_default above.places here.0 0 (ahead.low / 2) here.1 ∙ here.2 in
              absurd (off here.0 here.1 (omega (arith, at, before, half, le, rl)))
        ]
        | inr behind ↦ elim (cases_lt place ahead.mid) [
          | inl inside ↦
              let there : part_at row (place + 2 * t) ≡ slice_get row.parts (ahead.from - row.low + (place - ahead.low)) =
              at-behind row (place + 2 * t) (omega (arith, a, is, behind))
              ∙ ap (slice_get row.parts) (omega (arith, a, is, behind)) in
              after-kept row ahead aligned.fit place behind inside (λ i in_places e.
              let parent = raised.parents.over i 0 in_places (omega (arith, e, half, lt)) in
              let at : get_or above.places parent.0 0 ≡ get_or ahead.places i 0 / 2 = get_or_default above.places parent.0 0 (get_or ahead.places i 0 / 2) parent.1 ∙ parent.2 in
              off parent.0 parent.1 (omega (arith, at, e, half))) ∙ sym there
          | inr past ↦ elim raised.mid [
            | inl h ↦ (let m = h.1 in absurd (omega (arith, m, past, half, lt)))
            | inr h ↦
                let e = h.0 in
                let end = aligned.last (some-stay some) e in
                let ss = some-stay some in
                after-outside row ahead aligned.fit place (inr (omega (arith, e, past))) ∙ sym (at-past row (place + 2 * t) (omega (arith, end, is, past, ss)))
          ]
        ]
      ]

  made-at : (q : ℕ) → IsMade joined (sheet_at after (2 * q)) (sheet_at after (2 * q + 1)) (part_at (row_after over_row above) q)
  made-at q =
      let rl = raised.low in
      let g = raised.high in
      let le = mid-high in
      elim (cases_lt q above.low) [
        | inl before ↦ same-made joined (sheet_at after (2 * q)) None (sheet_at after (2 * q + 1)) None (part_at (row_after over_row above) q) None
            (ap (option_map part_sheet) (after-outside row ahead aligned.fit (2 * q) (inl (omega (arith, before, rl)))))
            (ap (option_map part_sheet) (after-outside row ahead aligned.fit (2 * q + 1) (inl (omega (arith, before, rl)))))
            (after-outside over_row above fit-over q (inl before)) refl
        | inr behind ↦ elim (cases_lt q above.mid) [
          | inl inside ↦ elim (found_or_not above.places q) [
            | inl f ↦
                let at = zip-at Made above.places above.changed raised.changed f.0 f.1 in
                subst (λ (place : ℕ). IsMade joined (sheet_at after (2 * place)) (sheet_at after (2 * place + 1)) (part_at (row_after over_row above) place)) f.2
                (same-made joined (sheet_at after (2 * get_or above.places f.0 0)) (sheet_at after (2 * get_or above.places f.0 0)) (sheet_at after (2 * get_or above.places f.0 0 + 1)) (sheet_at after (2 * get_or above.places f.0 0 + 1)) (part_at (row_after over_row above) (get_or above.places f.0 0)) (Some at.0) refl refl
                (after-changed over_row above fit-over f.0 f.1 ∙ at.1) at.2)
            | inr off ↦ stay_at q behind inside off
          ]
          | inr past ↦ elim (cases_lt q above.high) [
            | inl more ↦ fresh_at q past more
            | inr end ↦ same-made joined (sheet_at after (2 * q)) None (sheet_at after (2 * q + 1)) None (part_at (row_after over_row above) q) None
                (ap (option_map part_sheet) (after-outside row ahead aligned.fit (2 * q) (inr (omega (arith, end, g)))))
                (ap (option_map part_sheet) (after-outside row ahead aligned.fit (2 * q + 1) (inr (omega (arith, end, g)))))
                (after-outside over_row above fit-over q (inr end)) refl
          ]
        ]
      ]
    where
      stay_at : (q : ℕ) → above.low ≤ q → q < above.mid → ((i : ℕ) → i < length above.places → get_or above.places i 0 ≡ q → ⊥) → IsMade joined (sheet_at after (2 * q)) (sheet_at after (2 * q + 1)) (part_at (row_after over_row above) q)
      stay_at q le lt off =
          let some : above.low < above.mid = omega (arith, le, lt) in
          let mv = moved some in
          let t = mv.0 in
          let is = mv.1 in
          let st = stays-over some in
          let a = st.0 in
          let from = raised.from in
          let rl = raised.low in
          let up = over (within-folded some) in
          let left : 2 * q + 2 * t ≡ 2 * (q + t) = omega arith in
          let right : 2 * q + 1 + 2 * t ≡ 2 * (q + t) + 1 = omega arith in
          let same : part_at (row_after over_row above) q ≡ part_at over_row (q + t) =
          after-kept over_row above fit-over q le lt off
          ∙ ap (slice_get over_row.parts) (omega (arith, a, from, is, rl, le))
          ∙ sym (at-behind over_row (q + t) (omega (arith, a, from, is, rl, le))) in
          same-made joined (sheet_at after (2 * q)) (sheet_at row (2 * (q + t))) (sheet_at after (2 * q + 1)) (sheet_at row (2 * (q + t) + 1)) (part_at (row_after over_row above) q) (part_at over_row (q + t))
          (ap (option_map part_sheet) (below-stays t is q le lt off (2 * q) (inl refl) ∙ ap (part_at row) left))
          (ap (option_map part_sheet) (below-stays t is q le lt off (2 * q + 1) (inr refl) ∙ ap (part_at row) right))
          same (up.made (q + t))

      fresh_at : (q : ℕ) → above.mid ≤ q → q < above.high → IsMade joined (sheet_at after (2 * q)) (sheet_at after (2 * q + 1)) (part_at (row_after over_row above) q)
      fresh_at q le lt =
          let n = above.high - above.mid in
          let long = length-places_from above.mid n in
          let at = zip-at Made (places_from above.mid n) above.fresh raised.fresh (q - above.mid) (omega (arith, long, le, lt)) in
          let e : get_or (places_from above.mid n) (q - above.mid) 0 ≡ q = get-places_from above.mid n (q - above.mid) (omega (arith, le, lt)) ∙ omega (arith, le) in
          let made : Made q at.0 = subst (λ (place : ℕ). Made place at.0) e at.2 in
          same-made joined (sheet_at after (2 * q)) (sheet_at after (2 * q)) (sheet_at after (2 * q + 1)) (sheet_at after (2 * q + 1)) (part_at (row_after over_row above) q) (Some at.0) refl refl
          (after-fresh over_row above fit-over q le ∙ at.1) made

  -- The row after it is over the one below.
  pub raised-over : IsOver joined (row_after row ahead) (row_after over_row above)
  raised-over = record { low = raised.low; made = made-at }
