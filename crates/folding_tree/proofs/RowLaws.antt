-- What is at a place of a row, and of the row after it.
use Rattle.std.proofs.Common.{◌≡◌, ◌⊎◌, inl, inr, ℕ, ◌+◌, ◌-◌, ◌<◌, ◌≤◌, arith, sym, ap, ◌∙◌, List, length, length-append, length-take, length-drop, take, drop, get_or, map, Some, None, cond}
use Rattle.std.specs.List.{slice_get}
use Rattle.std.proofs.lemmas.Bool.{lt-ltb, le-ltb, cases_lt}
use Rattle.std.proofs.lemmas.Option.{slice_get_past, slice_get_within}
use Rattle.std.proofs.lemmas.List.Elements.{All-weaker}
use Rattle.record_text.specs.Shifts.{put_at}
use Rattle.folding_tree.specs.declared.part.Part.{Part}
use Rattle.folding_tree.specs.Levels.{Row, Ahead, part_at, row_after, IsFit}
use Rattle.folding_tree.proofs.ListLaws.{get-append_left, get-append_right, get-drop, get-take, get-put_other, get-put_same, length-put, get-less, length-less, rising-less}

module _ {J V M : Type 0} (row : Row J V M) where
  pub at-before : (place : ℕ) → place < row.low → part_at row place ≡ None
  at-before place lt = ap (λ b. cond b None (slice_get row.parts (place - row.low))) (lt-ltb place row.low lt)

  pub at-behind : (place : ℕ) → row.low ≤ place → part_at row place ≡ slice_get row.parts (place - row.low)
  at-behind place le = ap (λ b. cond b None (slice_get row.parts (place - row.low))) (le-ltb place row.low le)

  pub at-past : (place : ℕ) → row.low + length row.parts ≤ place → part_at row place ≡ None
  at-past place le = at-behind place (omega (arith, le)) ∙ slice_get_past row.parts (place - row.low) (omega (arith, le))

  -- A node is between both ends.
  pub at-within : (place : ℕ) (part : Part J V M) → part_at row place ≡ Some part → (row.low ≤ place) × (place < row.low + length row.parts)
  at-within place part is = elim (cases_lt place row.low) [
    | inl lt ↦ absurd (let no : None ≡ Some part = sym (at-before place lt) ∙ is in cc)
    | inr le ↦ (le, (let lt = slice_get_within row.parts (place - row.low) part (sym (at-behind place le) ∙ is) in omega (arith, lt, le)))
  ]

module _ {J V M : Type 0} (row : Row J V M) (ahead : Ahead J V M) (fit : IsFit row ahead) where
  abbrev after : Row J V M
  after = row_after row ahead

  abbrev stays : List (Part J V M)
  stays = take (ahead.mid - ahead.low) (drop (ahead.from - row.low) row.parts)

  abbrev relative : List ℕ
  relative = map (λ (place : ℕ). place - ahead.low) ahead.places

  stays_length : length stays ≡ ahead.mid - ahead.low
  stays_length = length-take (ahead.mid - ahead.low) (drop (ahead.from - row.low) row.parts) ∙ (let a = length-drop (ahead.from - row.low) row.parts in let b = fit.enough in omega (arith, a, b))

  front_length : length (put_at relative ahead.changed stays) ≡ ahead.mid - ahead.low
  front_length = length-put relative ahead.changed stays ∙ stays_length

  pub after-length : ahead.low + length after.parts ≡ ahead.high
  after-length =
      let a = length-append (put_at relative ahead.changed stays) ahead.fresh in
      let b = front_length in
      let c = fit.kept in
      let d = fit.fresh in
      omega (arith, a, b, c, d)

  -- There is nothing before it and after it.
  pub after-outside : (place : ℕ) → (place < ahead.low) ⊎ (ahead.high ≤ place) → part_at after place ≡ None
  after-outside place (inl lt) = at-before after place lt
  after-outside place (inr le) = at-past after place (let e = after-length in omega (arith, e, le))

  front_at : (place : ℕ) → ahead.low ≤ place → place < ahead.mid → part_at after place ≡ slice_get (put_at relative ahead.changed stays) (place - ahead.low)
  front_at place le lt = at-behind after place le ∙ get-append_left (put_at relative ahead.changed stays) ahead.fresh (place - ahead.low) (let e = front_length in omega (arith, e, le, lt))

  -- A node that stays.
  pub after-kept : (place : ℕ) → ahead.low ≤ place → place < ahead.mid → ((k : ℕ) → k < length ahead.places → get_or ahead.places k 0 ≡ place → ⊥) → part_at after place ≡ slice_get row.parts (ahead.from - row.low + (place - ahead.low))
  after-kept place le lt off =
      front_at place le lt
      ∙ get-put_other relative ahead.changed stays (place - ahead.low) (λ k in_rel e.
      let n = length-less ahead.low ahead.places in
      let here = get-less ahead.low ahead.places k (omega (arith, in_rel, n)) in
      let above = fit.within k 0 (omega (arith, in_rel, n)) in
      let above0 = above.0 in
      off k (omega (arith, in_rel, n)) (omega (arith, e, here, above0, le)))
      ∙ get-take (ahead.mid - ahead.low) (drop (ahead.from - row.low) row.parts) (place - ahead.low) (omega (arith, le, lt))
      ∙ get-drop (ahead.from - row.low) row.parts (place - ahead.low)

  -- A changed node.
  pub after-changed : (k : ℕ) → k < length ahead.places → part_at after (get_or ahead.places k 0) ≡ slice_get ahead.changed k
  after-changed k lt =
      let n = length-less ahead.low ahead.places in
      let here = get-less ahead.low ahead.places k lt in
      let bounds = fit.within k 0 lt in
      let le = bounds.0 in
      let below = bounds.1 in
      let changed = fit.changed in
      let s = stays_length in
      front_at (get_or ahead.places k 0) le below
      ∙ ap (slice_get (put_at relative ahead.changed stays)) (sym here)
      ∙ get-put_same relative ahead.changed stays k
      (rising-less ahead.low ahead.places (All-weaker (λ (p : ℕ). (ahead.low ≤ p) × (p < ahead.mid)) (λ (p : ℕ). ahead.low ≤ p) (λ p h. h.0) ahead.places fit.within) fit.rising)
      (omega (arith, lt, n)) (omega (arith, lt, changed)) (omega (arith, here, le, below, s))

  -- A fresh node.
  pub after-fresh : (place : ℕ) → ahead.mid ≤ place → part_at after place ≡ slice_get ahead.fresh (place - ahead.mid)
  after-fresh place le =
      let kept = fit.kept in
      let e : place - ahead.low ≡ length (put_at relative ahead.changed stays) + (place - ahead.mid) = (let f = front_length in omega (arith, f, kept, le)) in
      at-behind after place (omega (arith, kept, le))
      ∙ ap (slice_get after.parts) e
      ∙ get-append_right (put_at relative ahead.changed stays) ahead.fresh (place - ahead.mid)
