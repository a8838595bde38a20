-- Levels and drafts by their number.
use Rattle.std.proofs.Common.{◌≡◌, ◌⊎◌, inl, inr, ℕ, suc, zero, ◌+◌, ◌-◌, ◌<◌, ◌≤◌, arith, sym, ap, ◌∙◌, refl, subst, List, [], ◌∷◌, ◌++◌, length, length-append, get_or, set, take, drop, map, append-nil, append_assoc, Some, None, true, false}
use Rattle.std.specs.List.{slice_get}
use Rattle.std.proofs.lemmas.Bool.{or_cases, or_left, or_right, cases_lt, cases_eq, false≢true}
use Rattle.std.proofs.lemmas.Option.{slice_get_within}
use Rattle.std.proofs.lemmas.List.{get_or-map, get_or_past, length-map, nil_from_length}
use Rattle.record_text.specs.Shifts.{put_at}
use Rattle.pin_table.specs.Covers.{PinName}
use Rattle.tree_laws.specs.Pairs.{PairOf}
use Rattle.folding_tree.specs.declared.level.Level.{Level}
use Rattle.folding_tree.specs.declared.draft.Draft.{Draft}
use Rattle.folding_tree.specs.declared.part.Part.{Part}
use Rattle.folding_tree.specs.Levels.{Row, Ahead, no_row, no_ahead, row_after, parts_pins, parts_loose, rows_loose, ahead_loose, IsOver, part_sheet}
use Rattle.folding_tree.specs.Folding.{row_of, ahead_of, rows_of, aheads_of, levels_pins, draft_pins, drafts_pins}
use Rattle.folding_tree.proofs.PartLaws.{loose-append, loose-put, loose-take, loose-drop}
use Rattle.folding_tree.proofs.RootLaws.{over-few}

module _ {J V M : Type 0} where
  pub rows-get : (levels : List (Level J V M)) (k : ℕ) (level : Level J V M) → slice_get levels k ≡ Some level → rows_of levels k ≡ row_of level
  rows-get [] k level e = absurd (let no : None ≡ Some level = e in cc)
  rows-get (l ∷ levels) zero level e = ap row_of (let some : Some l ≡ Some level = e in let same : l ≡ level = cc in same)
  rows-get (l ∷ levels) (suc k) level e = rows-get levels k level e

  -- A level that was read by its index.
  pub rows-read : (levels : List (Level J V M)) (k : ℕ) (level : Level J V M) → k < length levels → level ≡ get_or levels k level → rows_of levels k ≡ row_of level
  rows-read levels k level lt is = get_or-map row_of levels k level no_row lt ∙ ap row_of (sym is)

  pub rows-past : (levels : List (Level J V M)) (k : ℕ) → length levels ≤ k → rows_of levels k ≡ no_row
  rows-past levels k le = get_or_past (map row_of levels) k no_row (let n = length-map levels row_of in omega (arith, n, le))

  pub aheads-get : (drafts : List (Draft J V M)) (k : ℕ) (draft : Draft J V M) → slice_get drafts k ≡ Some draft → aheads_of drafts k ≡ ahead_of draft
  aheads-get [] k draft e = absurd (let no : None ≡ Some draft = e in cc)
  aheads-get (d ∷ drafts) zero draft e = ap ahead_of (let some : Some d ≡ Some draft = e in let same : d ≡ draft = cc in same)
  aheads-get (d ∷ drafts) (suc k) draft e = aheads-get drafts k draft e

  pub aheads-read : (drafts : List (Draft J V M)) (k : ℕ) (draft : Draft J V M) → k < length drafts → draft ≡ get_or drafts k draft → aheads_of drafts k ≡ ahead_of draft
  aheads-read drafts k draft lt is = get_or-map ahead_of drafts k draft no_ahead lt ∙ ap ahead_of (sym is)

  pub aheads-past : (drafts : List (Draft J V M)) (k : ℕ) → length drafts ≤ k → aheads_of drafts k ≡ no_ahead
  aheads-past drafts k le = get_or_past (map ahead_of drafts) k no_ahead (let n = length-map drafts ahead_of in omega (arith, n, le))

  -- One draft more.
  pub aheads-before : (drafts : List (Draft J V M)) (d : Draft J V M) (k : ℕ) → k < length drafts → aheads_of (drafts ++ d ∷ []) k ≡ aheads_of drafts k
  aheads-before [] d k lt = absurd (omega (arith, lt))
  aheads-before (e ∷ drafts) d zero lt = refl
  aheads-before (e ∷ drafts) d (suc k) lt = aheads-before drafts d k (omega (arith, lt))

  pub aheads-last : (drafts : List (Draft J V M)) (d : Draft J V M) (k : ℕ) → k ≡ length drafts → aheads_of (drafts ++ d ∷ []) k ≡ ahead_of d
  aheads-last [] d k e = ap (aheads_of (d ∷ [])) e
  aheads-last (x ∷ drafts) d zero e = absurd (omega (arith, e))
  aheads-last (x ∷ drafts) d (suc k) e = aheads-last drafts d k (omega (arith, e))

  -- The only draft brings nothing that is loose.
  pub drafts-tight : (drafts : List (Draft J V M)) → length drafts ≡ 1 → ahead_loose (aheads_of drafts 0) ≡ false → (i : ℕ) → ahead_loose (aheads_of drafts i) ≡ true → ⊥
  drafts-tight drafts one tight zero h = (let no : false ≡ true = sym tight ∙ h in false≢true no)
  drafts-tight drafts one tight (suc i) h =
      let past = aheads-past drafts (suc i) (omega (arith, one)) in
      (let no : false ≡ true = sym (ap ahead_loose past) ∙ h in false≢true no)

  -- No drafts bring nothing that is loose.
  pub none-tight : (drafts : List (Draft J V M)) → drafts ≡ [] → (k : ℕ) → ahead_loose (aheads_of drafts k) ≡ true → ⊥
  none-tight drafts none k h =
      let n = ap length none in
      let past = aheads-past drafts k (omega (arith, n)) in
      (let no : false ≡ true = sym (ap ahead_loose past) ∙ h in false≢true no)

  -- One level written.
  pub rows-set_same : (levels : List (Level J V M)) (k : ℕ) (level : Level J V M) → k < length levels → rows_of (set levels k level) k ≡ row_of level
  rows-set_same [] k level lt = absurd (omega (arith, lt))
  rows-set_same (l ∷ levels) zero level lt = refl
  rows-set_same (l ∷ levels) (suc k) level lt = rows-set_same levels k level (omega (arith, lt))

  pub rows-set_other : (levels : List (Level J V M)) (i k : ℕ) (level : Level J V M) → (k ≡ i → ⊥) → rows_of (set levels i level) k ≡ rows_of levels k
  rows-set_other [] i k level off = refl
  rows-set_other (l ∷ levels) zero zero level off = absurd (off refl)
  rows-set_other (l ∷ levels) zero (suc k) level off = refl
  rows-set_other (l ∷ levels) (suc i) zero level off = refl
  rows-set_other (l ∷ levels) (suc i) (suc k) level off = rows-set_other levels i k level (λ e. off (ap suc e))

  -- One level more without nodes.
  pub rows-push : (levels : List (Level J V M)) (l : Level J V M) → row_of l ≡ no_row → (k : ℕ) → rows_of (levels ++ l ∷ []) k ≡ rows_of levels k
  rows-push [] l none zero = none
  rows-push [] l none (suc k) = refl
  rows-push (x ∷ levels) l none zero = refl
  rows-push (x ∷ levels) l none (suc k) = rows-push levels l none k

  -- One level written whose row stays.
  pub rows-set_like : (levels : List (Level J V M)) (k : ℕ) (l m : Level J V M) → slice_get levels k ≡ Some l → row_of m ≡ row_of l → (i : ℕ) → rows_of (set levels k m) i ≡ rows_of levels i
  rows-set_like levels k l m is like i = elim (cases_eq i k) [
    | inl e ↦
        let lt = slice_get_within levels k l is in
        subst (λ (n : ℕ). rows_of (set levels k m) n ≡ rows_of levels n) (sym e) (rows-set_same levels k m lt ∙ like ∙ sym (rows-get levels k l is))
    | inr off ↦ rows-set_other levels k i m off
  ]

  -- A row of nodes that are loose.
  pub any-row : (n : ℕ) (rows : ℕ → Row J V M) → rows_loose n rows ≡ true → (k : ℕ) × (k < n) × (parts_loose (rows k).parts ≡ true)
  any-row zero rows h = absurd (let no : false ≡ true = h in cc)
  any-row (suc n) rows h = elim (or_cases (rows_loose n rows) (parts_loose (rows n).parts) h) [
    | inl a ↦ (let below = any-row n rows a in (below.0, (let lt = below.1 in omega (arith, lt)), below.2))
    | inr b ↦ (n, omega arith, b)
  ]

  pub some-row_loose : (n : ℕ) (rows : ℕ → Row J V M) (k : ℕ) → k < n → parts_loose (rows k).parts ≡ true → rows_loose n rows ≡ true
  some-row_loose zero rows k lt h = absurd (omega (arith, lt))
  some-row_loose (suc n) rows k lt h = elim (cases_eq k n) [
    | inl e ↦ or_right (rows_loose n rows) (parts_loose (rows n).parts) (subst (λ (i : ℕ). parts_loose (rows i).parts ≡ true) e h)
    | inr off ↦ or_left (rows_loose n rows) (parts_loose (rows n).parts) (some-row_loose n rows k (omega (arith, lt, off)) h)
  ]

  pub after-loose : (row : Row J V M) (ahead : Ahead J V M) → parts_loose (row_after row ahead).parts ≡ true → (parts_loose row.parts ≡ true) ⊎ (ahead_loose ahead ≡ true)
  after-loose row ahead h =
      let places : List ℕ = map (λ (place : ℕ). place - ahead.low) ahead.places in
      let rest : List (Part J V M) = drop (ahead.from - row.low) row.parts in
      let kept : List (Part J V M) = take (ahead.mid - ahead.low) rest in
      elim (loose-append (put_at places ahead.changed kept) ahead.fresh h) [
        | inl front ↦ elim (loose-put places ahead.changed kept front) [
          | inl c ↦ inr (or_left (parts_loose ahead.changed) (parts_loose ahead.fresh) c)
          | inr s ↦ inl (loose-drop (ahead.from - row.low) row.parts (loose-take (ahead.mid - ahead.low) rest s))
        ]
        | inr back ↦ inr (or_right (parts_loose ahead.changed) (parts_loose ahead.fresh) back)
      ]

  -- A node of the next rows is loose only if a node of the rows is, or one that comes.
  pub rows-after_loose : (X : Type 0) (height next : ℕ) (rows : ℕ → Row J V M) (aheads : ℕ → Ahead J V M) → ((k : ℕ) → height < k → (rows k).parts ≡ []) → ((k : ℕ) → ahead_loose (aheads k) ≡ true → X)
      → rows_loose (suc next) (λ k. row_after (rows k) (aheads k)) ≡ true → (rows_loose (suc height) rows ≡ true) ⊎ X
  rows-after_loose X height next rows aheads above met h =
      let there = any-row (suc next) (λ k. row_after (rows k) (aheads k)) h in
      elim (after-loose (rows there.0) (aheads there.0) there.2) [
        | inl old ↦ elim (cases_lt height there.0) [
          | inl over ↦ absurd (let no : false ≡ true = sym (ap parts_loose (above there.0 over)) ∙ old in cc)
          | inr le ↦ inl (some-row_loose (suc height) rows there.0 (omega (arith, le)) old)
        ]
        | inr new ↦ inr (met there.0 new)
      ]

module _ {J V M : Type 0} (digest_of : PairOf V → List ℕ) where
  pub drafts-push : (drafts : List (Draft J V M)) (d : Draft J V M) → drafts_pins digest_of (drafts ++ d ∷ []) ≡ drafts_pins digest_of drafts ++ draft_pins digest_of d
  drafts-push [] d = append-nil (draft_pins digest_of d)
  drafts-push (x ∷ drafts) d = ap (λ (ps : List PinName). draft_pins digest_of x ++ ps) (drafts-push drafts d) ∙ sym (append_assoc (draft_pins digest_of x) (drafts_pins digest_of drafts) (draft_pins digest_of d))

  pub levels-push : (levels : List (Level J V M)) (l : Level J V M) → levels_pins digest_of (levels ++ l ∷ []) ≡ levels_pins digest_of levels ++ parts_pins digest_of l.nodes.items
  levels-push [] l = append-nil (parts_pins digest_of l.nodes.items)
  levels-push (x ∷ levels) l = ap (λ (ps : List PinName). parts_pins digest_of x.nodes.items ++ ps) (levels-push levels l) ∙ sym (append_assoc (parts_pins digest_of x.nodes.items) (levels_pins digest_of levels) (parts_pins digest_of l.nodes.items))

  -- The pins of the levels before one and after it.
  pub levels-split : (levels : List (Level J V M)) (k : ℕ) (l : Level J V M) → slice_get levels k ≡ Some l → (hs : List PinName) × (bs : List PinName) × (levels_pins digest_of levels ≡ hs ++ (parts_pins digest_of l.nodes.items ++ bs)) × ((m : Level J V M) → levels_pins digest_of (set levels k m) ≡ hs ++ (parts_pins digest_of m.nodes.items ++ bs))
  levels-split [] k l e = absurd (let no : None ≡ Some l = e in cc)
  levels-split (x ∷ levels) zero l e =
      let same : x ≡ l = (let some : Some x ≡ Some l = e in cc) in
      ([], levels_pins digest_of levels, ap (λ (y : Level J V M). parts_pins digest_of y.nodes.items ++ levels_pins digest_of levels) same, λ m. refl)
  levels-split (x ∷ levels) (suc k) l e =
      let rest = levels-split levels k l e in
      let own = parts_pins digest_of x.nodes.items in (
        own ++ rest.0,
        rest.1,
        ap (λ (ps : List PinName). own ++ ps) rest.2 ∙ sym (append_assoc own rest.0 (parts_pins digest_of l.nodes.items ++ rest.1)),
        λ m. ap (λ (ps : List PinName). own ++ ps) (rest.3 m) ∙ sym (append_assoc own rest.0 (parts_pins digest_of m.nodes.items ++ rest.1)),
      )

  -- One level written whose nodes stay.
  pub pins-set_like : (levels : List (Level J V M)) (k : ℕ) (l m : Level J V M) → slice_get levels k ≡ Some l → m.nodes.items ≡ l.nodes.items → levels_pins digest_of (set levels k m) ≡ levels_pins digest_of levels
  pins-set_like levels k l m is like =
      let s = levels-split levels k l is in
      s.3 m ∙ ap (λ (ps : List (Part J V M)). s.0 ++ (parts_pins digest_of ps ++ s.1)) like ∙ sym s.2

  pub levels-none : (levels : List (Level J V M)) → ((k : ℕ) → (rows_of levels k).parts ≡ []) → levels_pins digest_of levels ≡ []
  levels-none [] none = refl
  levels-none (l ∷ levels) none =
      ap (λ (ps : List (Part J V M)). parts_pins digest_of ps ++ levels_pins digest_of levels) (none 0) ∙ levels-none levels (λ k. none (suc k))

  -- The levels over the leaves have fewer pins than leaves.
  pub levels-few : (joined : ℕ → V → V → V) (levels : List (Level J V M)) (height : ℕ) → ((k : ℕ) → k < height → IsOver joined (rows_of levels k) (rows_of levels (suc k))) → ((k : ℕ) → height < k → (rows_of levels k).parts ≡ [])
      → length (levels_pins digest_of levels) ≤ length (parts_pins digest_of (rows_of levels 0).parts) + (length (rows_of levels 0).parts - 1)
  levels-few joined [] height over above = omega arith
  levels-few joined (l ∷ levels) zero over above =
      let none = levels-none levels (λ k. above (suc k) (omega arith)) in
      let sum = length-append (parts_pins digest_of l.nodes.items) (levels_pins digest_of levels) in
      let n = ap length none in
      omega (arith, sum, n)
  levels-few joined (l ∷ []) (suc height) over above =
      let sum = length-append (parts_pins digest_of l.nodes.items) [] in omega (arith, sum)
  levels-few joined (l ∷ (m ∷ levels)) (suc height) over above =
      let rest = levels-few joined (m ∷ levels) height (λ k lt. over (suc k) (omega (arith, lt))) (λ k lt. above (suc k) (omega (arith, lt))) in
      let few = over-few joined digest_of (row_of l) (row_of m) (over 0 (omega arith)) in
      let n = length-map l.nodes.items part_sheet in
      let sum = length-append (parts_pins digest_of l.nodes.items) (levels_pins digest_of (m ∷ levels)) in
      elim (cases_eq (length m.nodes.items) 0) [
        | inl e ↦
            let nil : parts_pins digest_of m.nodes.items ≡ [] = ap (parts_pins digest_of) (nil_from_length m.nodes.items e) in
            let z = ap length nil in
            omega (arith, rest, few, n, sum, e, z)
        | inr off ↦ omega (arith, rest, few, n, sum, off)
      ]
