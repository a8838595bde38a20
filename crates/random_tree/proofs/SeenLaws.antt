-- The model of a tree before and after each call.
use Rattle.std.proofs.Common.{◌≡◌, ◌⊎◌, inl, inr, ℕ, suc, zero, ◌+◌, ◌-◌, ◌*◌, ◌<◌, ◌||◌, Bool, true, false, List, [], ◌∷◌, ◌++◌, length, map, take, drop, Some, None, refl, sym, ap, subst, ◌∙◌, arith, append-nil, append_assoc, length-append, length-take, length-drop}
use Rattle.std.specs.Prelude.{IsSome, Contains}
use Rattle.std.specs.List.{All, list_any}
use Rattle.std.proofs.lemmas.List.Folds.{list_any-append}
use Rattle.std.proofs.lemmas.List.Elements.{All-head, All-tail, All-nil, All-cons, All-append, All-take, All-drop}
use Rattle.definitions.specs.Tables.{merged}
use Rattle.job_laws.specs.declared.meter.Counts.{Counts}
use Rattle.job_laws.specs.Counted.{RoseBy, RoseWithin}
use Rattle.sheets.specs.Sheets.{SheetOf}
use Rattle.sheets.specs.United.{tables_of}
use Rattle.record_text.specs.declared.kind.Kind.TheVariants.{Document}
use Rattle.record_text.specs.declared.shift.Shift.{Shift}
use Rattle.record_text.specs.declared.shift.Shift.TheVariants.{Slide, Splice}
use Rattle.record_text.specs.Shifts.{FitsShift, shifted, first_after}
use Rattle.pin_table.specs.Views.{CallerView}
use Rattle.pin_table.specs.Covers.{PinName, Covered}
use Rattle.pin_table.specs.OwnEvents.{Met, IsKnown}
use Rattle.pin_table.proofs.Covering.{covered-left}
use Rattle.tree_laws.specs.Pairs.{PairOf, pair_digest}
use Rattle.tree_laws.specs.Trees.{no_shape, IsLeaf, IsWithin, distinct_keys}
use Rattle.tree_laws.proofs.KeyCounts.{within-first, within-next}
use Rattle.random_tree.specs.declared.group.Group.{Group}
use Rattle.random_tree.specs.declared.level.Level.{Level}
use Rattle.random_tree.specs.Inputs.{tree_inputs, fresh_inputs, is_marked, input_of}
use Rattle.random_tree.specs.Levels.{count_after, IsTableOf, IsLeafTable, group_table, group_loose, groups_loose, now_of, fresh_of, taken, IsUndrafted, Fits, bottom, IsTree, leaves_of, draft_of, groups_pins, stands_pins, drafts_pins}
use Rattle.random_tree.specs.Steps.{AddsEmpty, Costs, CostsSome}
use Rattle.random_tree.proofs.InputLaws.{count-inputs}
use Rattle.random_tree.proofs.PayLaws.{fresh-pays}
use Rattle.std.proofs.lemmas.Bool.{or_cases}
use Rattle.random_tree.proofs.TightLaws.{pins-known, tree-digests}

or-false : (b : Bool) → (b || false) ≡ b
or-false true = refl
or-false false = refl

module _ {J V M : Type 0} where
  pub no-draft : (drafted : Bool) (levels : List (Level J V M)) → draft_of drafted levels ≡ None → drafted ≡ false
  no-draft true levels is = absurd (let no : Some (leaves_of (map taken levels)) ≡ None = is in cc)
  no-draft false levels is = refl

  pub some-draft : (drafted : Bool) (levels : List (Level J V M)) → IsSome (draft_of drafted levels) → drafted ≡ true
  some-draft true levels is = refl
  some-draft false levels is = absurd (let no : false ≡ true = is in cc)

  -- No level has a draft.
  pub undrafted-pins : (digest_of : PairOf V → List ℕ) (levels : List (Level J V M)) → All IsUndrafted levels → drafts_pins digest_of levels ≡ []
  undrafted-pins digest_of [] all = refl
  undrafted-pins digest_of (l ∷ levels) all =
      let none = (All-head IsUndrafted l levels all).2 in
      ap (λ (gs : List (Group J V M)). groups_pins digest_of gs ++ drafts_pins digest_of levels) none ∙ undrafted-pins digest_of levels (All-tail IsUndrafted l levels all)

  pub undrafted-fits : (levels : List (Level J V M)) → All IsUndrafted levels → All Fits levels
  undrafted-fits [] all = All-nil Fits
  undrafted-fits (l ∷ levels) all = All-cons Fits l levels (let u = All-head IsUndrafted l levels all in let a = u.0 in let b = u.1 in omega (arith, a, b)) (undrafted-fits levels (All-tail IsUndrafted l levels all))

  none-loose : (more : List (List (Group J V M))) → All (λ gs. gs ≡ []) more → list_any groups_loose more ≡ false
  none-loose [] all = refl
  none-loose (gs ∷ more) all = ap (λ (hs : List (Group J V M)). groups_loose hs || list_any groups_loose more) (All-head (λ (hs : List (Group J V M)). hs ≡ []) gs more all) ∙ none-loose more (All-tail (λ (hs : List (Group J V M)). hs ≡ []) gs more all)

  -- Levels without groups change no leaves.
  pub empty-bottom : (old new : List (List (Group J V M))) → 0 < length old → AddsEmpty old new → bottom new ≡ bottom old
  empty-bottom [] new some adds = absurd (omega (arith, some))
  empty-bottom (gs ∷ old) new some adds = ap bottom adds.1

  pub empty-leaves : (old new : List (List (Group J V M))) → 0 < length old → AddsEmpty old new → leaves_of new ≡ leaves_of old
  empty-leaves old new some adds =
      let tables = ap (map group_table) (empty-bottom old new some adds) in
      let loose : list_any groups_loose new ≡ list_any groups_loose old = ap (list_any groups_loose) adds.1 ∙ (list_any-append groups_loose old adds.0 ∙ (ap (λ (b : Bool). list_any groups_loose old || b) (none-loose adds.0 adds.2) ∙ or-false (list_any groups_loose old))) in
      λ i. record { first = 0; tables = tables i; loose = loose i; shape = no_shape }

  none-pins : (digest_of : PairOf V → List ℕ) (more : List (List (Group J V M))) → All (λ gs. gs ≡ []) more → stands_pins digest_of more ≡ []
  none-pins digest_of [] all = refl
  none-pins digest_of (gs ∷ more) all = ap (λ (hs : List (Group J V M)). groups_pins digest_of hs ++ stands_pins digest_of more) (All-head (λ (hs : List (Group J V M)). hs ≡ []) gs more all) ∙ none-pins digest_of more (All-tail (λ (hs : List (Group J V M)). hs ≡ []) gs more all)

  pub empty-pins : (digest_of : PairOf V → List ℕ) (old new : List (List (Group J V M))) → AddsEmpty old new → stands_pins digest_of new ≡ stands_pins digest_of old
  empty-pins digest_of old new adds = ap (stands_pins digest_of) adds.1 ∙ (go old ∙ (ap (λ (ps : List PinName). stands_pins digest_of old ++ ps) (none-pins digest_of adds.0 adds.2) ∙ append-nil (stands_pins digest_of old)))
    where
      go : (ls : List (List (Group J V M))) → stands_pins digest_of (ls ++ adds.0) ≡ stands_pins digest_of ls ++ stands_pins digest_of adds.0
      go [] = refl
      go (gs ∷ ls) = ap (λ (ps : List PinName). groups_pins digest_of gs ++ ps) (go ls) ∙ sym (append_assoc (groups_pins digest_of gs) (stands_pins digest_of ls) (stands_pins digest_of adds.0))

  any-take : (n : ℕ) (gs : List (Group J V M)) → groups_loose (take n gs) ≡ true → groups_loose gs ≡ true
  any-take zero gs is = absurd (let no : false ≡ true = is in cc)
  any-take (suc n) [] is = is
  any-take (suc n) (g ∷ gs) is = go (group_loose g) (λ h. any-take n gs h) (or_cases (group_loose g) (groups_loose (take n gs)) is)
    where
      go : (b : Bool) → (groups_loose (take n gs) ≡ true → groups_loose gs ≡ true) → (b ≡ true) ⊎ (groups_loose (take n gs) ≡ true) → (b || groups_loose gs) ≡ true
      go true below h = refl
      go false below (inl h) = absurd (let no : false ≡ true = h in cc)
      go false below (inr h) = below h

  any-drop : (n : ℕ) (gs : List (Group J V M)) → groups_loose (drop n gs) ≡ true → groups_loose gs ≡ true
  any-drop zero gs is = is
  any-drop (suc n) [] is = is
  any-drop (suc n) (g ∷ gs) is = go (group_loose g) (any-drop n gs is)
    where
      go : (b : Bool) → groups_loose gs ≡ true → (b || groups_loose gs) ≡ true
      go true h = refl
      go false h = h

  one-loose : (l : Level J V M) → groups_loose (taken l) ≡ true → (groups_loose (now_of l) ≡ true) ⊎ (groups_loose (fresh_of l) ≡ true)
  one-loose l is = go (or_cases (groups_loose (take l.draft.first (now_of l))) (groups_loose (fresh_of l ++ drop (l.draft.first + l.draft.gone) (now_of l))) (sym (list_any-append group_loose (take l.draft.first (now_of l)) (fresh_of l ++ drop (l.draft.first + l.draft.gone) (now_of l))) ∙ is))
    where
      back : (groups_loose (fresh_of l) ≡ true) ⊎ (groups_loose (drop (l.draft.first + l.draft.gone) (now_of l)) ≡ true) → (groups_loose (now_of l) ≡ true) ⊎ (groups_loose (fresh_of l) ≡ true)
      back (inl h) = inr h
      back (inr h) = inl (any-drop (l.draft.first + l.draft.gone) (now_of l) h)

      go : (groups_loose (take l.draft.first (now_of l)) ≡ true) ⊎ (groups_loose (fresh_of l ++ drop (l.draft.first + l.draft.gone) (now_of l)) ≡ true) → (groups_loose (now_of l) ≡ true) ⊎ (groups_loose (fresh_of l) ≡ true)
      go (inl h) = inl (any-take l.draft.first (now_of l) h)
      go (inr h) = back (or_cases (groups_loose (fresh_of l)) (groups_loose (drop (l.draft.first + l.draft.gone) (now_of l))) (sym (list_any-append group_loose (fresh_of l) (drop (l.draft.first + l.draft.gone) (now_of l))) ∙ h))

  -- A draft is loose only if the tree is, or a group that it brings.
  pub taken-loose : (levels : List (Level J V M)) → list_any groups_loose (map taken levels) ≡ true → (list_any groups_loose (map now_of levels) ≡ true) ⊎ (list_any (λ l. groups_loose (fresh_of l)) levels ≡ true)
  taken-loose [] is = absurd (let no : false ≡ true = is in cc)
  taken-loose (l ∷ levels) is = go (groups_loose (now_of l)) (groups_loose (fresh_of l)) (first (λ h. taken-loose levels h) (or_cases (groups_loose (taken l)) (list_any groups_loose (map taken levels)) is))
    where
      first : (list_any groups_loose (map taken levels) ≡ true → (list_any groups_loose (map now_of levels) ≡ true) ⊎ (list_any (λ k. groups_loose (fresh_of k)) levels ≡ true)) → (groups_loose (taken l) ≡ true) ⊎ (list_any groups_loose (map taken levels) ≡ true) → ((groups_loose (now_of l) ≡ true) ⊎ (groups_loose (fresh_of l) ≡ true)) ⊎ ((list_any groups_loose (map now_of levels) ≡ true) ⊎ (list_any (λ k. groups_loose (fresh_of k)) levels ≡ true))
      first below (inl h) = inl (one-loose l h)
      first below (inr h) = inr (below h)

      or-right : (a : Bool) (b : Bool) → b ≡ true → (a || b) ≡ true
      or-right true b h = refl
      or-right false b h = h

      go : (a b : Bool) → ((a ≡ true) ⊎ (b ≡ true)) ⊎ ((list_any groups_loose (map now_of levels) ≡ true) ⊎ (list_any (λ k. groups_loose (fresh_of k)) levels ≡ true)) → ((a || list_any groups_loose (map now_of levels)) ≡ true) ⊎ ((b || list_any (λ k. groups_loose (fresh_of k)) levels) ≡ true)
      go a b (inl (inl h)) = inl (ap (λ (c : Bool). c || list_any groups_loose (map now_of levels)) h)
      go a b (inl (inr h)) = inr (ap (λ (c : Bool). c || list_any (λ (k : Level J V M). groups_loose (fresh_of k)) levels) h)
      go a b (inr (inl h)) = inl (or-right a (list_any groups_loose (map now_of levels)) h)
      go a b (inr (inr h)) = inr (or-right b (list_any (λ (k : Level J V M). groups_loose (fresh_of k)) levels) h)

-- What a shift of a document is.
pub splice-fits : {X : Type 0} (most old count news : ℕ) (shift : Shift) (ns os : List X) → count ≡ length os → news ≡ length ns → FitsShift Document most old count news shift → (first_after shift 0 ≡ 0) × (length (shifted shift ns os) ≡ count_after shift count)
splice-fits most old count news (Slide first gone places fresh) ns os a b fits = absurd fits
splice-fits most old count news (Splice first gone fresh) ns os a b fits = (
  refl,
  (
      let c = length-append (take first os ++ ns) (drop (first + gone) os) in
      let d = length-append (take first os) ns in
      let e = length-take first os in
      let f = length-drop (first + gone) os in
      let g = fits.0 in
      let h = fits.1 in
      omega (arith, a, b, c, d, e, f, g, h)),
)

pub splice-all : {X : Type 0} (P : X → Type 0) (most old count news : ℕ) (shift : Shift) (ns os : List X) → FitsShift Document most old count news shift → All P ns → All P os → All P (shifted shift ns os)
splice-all P most old count news (Slide first gone places fresh) ns os fits a b = absurd fits
splice-all P most old count news (Splice first gone fresh) ns os fits a b = All-append P (take first os ++ ns) (drop (first + gone) os) (All-append P (take first os) ns (All-take P first os b) a) (All-drop P (first + gone) os b)

module _ {V : Type 0} where
  within-all : (ts : List (List (List ℕ × V))) → All (λ t. IsWithin t ts) ts
  within-all [] = All-nil (λ (t : List (List ℕ × V)). IsWithin t [])
  within-all (t ∷ ts) = All-cons (λ (u : List (List ℕ × V)). IsWithin u (t ∷ ts)) t ts (within-first t ts) (more ts (within-all ts))
    where
      more : (us : List (List (List ℕ × V))) → All (λ u. IsWithin u ts) us → All (λ u. IsWithin u (t ∷ ts)) us
      more [] all = All-nil (λ (u : List (List ℕ × V)). IsWithin u (t ∷ ts))
      more (u ∷ us) all = All-cons (λ (w : List (List ℕ × V)). IsWithin w (t ∷ ts)) u us (within-next u t ts (All-head (λ (w : List (List ℕ × V)). IsWithin w ts) u us all)) (more us (All-tail (λ (w : List (List ℕ × V)). IsWithin w ts) u us all))

  -- Tables of leaves are tables of themselves.
  pub leaf-tables : (good : V → Type 0) (ts : List (List (List ℕ × V))) → All (IsLeafTable good) ts → All (IsTableOf ts) ts
  leaf-tables good ts all = go ts all (within-all ts)
    where
      go : (us : List (List (List ℕ × V))) → All (IsLeafTable good) us → All (λ u. IsWithin u ts) us → All (IsTableOf ts) us
      go [] a b = All-nil (IsTableOf ts)
      go (u ∷ us) a b = All-cons (IsTableOf ts) u us ((All-head (IsLeafTable good) u us a).1, All-head (λ (w : List (List ℕ × V)). IsWithin w ts) u us b) (go us (All-tail (IsLeafTable good) u us a) (All-tail (λ (w : List (List ℕ × V)). IsWithin w ts) u us b))

  pub sheets-leaves : (good : ℕ → V → Type 0) (setting : ℕ) (ss : List (SheetOf V)) → All (IsLeaf good setting) ss → All (IsLeafTable (good setting)) (tables_of ss)
  sheets-leaves good setting [] all = All-nil (IsLeafTable (good setting))
  sheets-leaves good setting (s ∷ ss) all = let a = All-head (IsLeaf good setting) s ss all in All-cons (IsLeafTable (good setting)) s.entries (tables_of ss) (a.values, a.rising) (sheets-leaves good setting ss (All-tail (IsLeaf good setting) s ss all))

  -- What all inputs cost, if the tables are the leaves'.
  module _ (good : ℕ → V → Type 0) (joined : ℕ → V → V → V) (setting : ℕ) (encoded : V → List ℕ) (now : List (List (List ℕ × V))) (leaves : All (IsLeafTable (good setting)) now) (u v : CallerView) (x y : Counts) (most : ℕ) (most_is : length now ≡ most) where
    within-most : RoseBy 0 (length (tree_inputs encoded joined setting now)) (length (tree_inputs encoded joined setting now) * distinct_keys now) x y → RoseBy 0 (most - 1) ((most - 1) * distinct_keys now) x y
    within-most a = subst (λ (n : ℕ). RoseBy 0 n (n * distinct_keys now) x y) (let c = count-inputs (merged (joined setting)) (input_of encoded setting) (is_marked encoded) now in let same : length (tree_inputs encoded joined setting now) ≡ most - 1 = omega (arith, c, most_is) in same) a

    pub costs-counted : Costs now u v x y (tree_inputs encoded joined setting now) → RoseBy 0 (most - 1) ((most - 1) * distinct_keys now) x y
    costs-counted cost = within-most (cost now (leaf-tables (good setting) now leaves)).counted

    pub some-counted : CostsSome now u v x y (tree_inputs encoded joined setting now) → RoseBy 0 (most - 1) ((most - 1) * distinct_keys now) x y
    some-counted cost = within-most (cost now (leaf-tables (good setting) now leaves)).counted

    -- If each input of the old tree is known, the fresh ones pay.
    module _ (old : List (List (List ℕ × V))) (known : (d : List ℕ) → Contains (tree_inputs encoded joined setting old) d → IsKnown d u) (clean : Met u v → ⊥) where
      pub costs-tight : Costs now u v x y (tree_inputs encoded joined setting now) → RoseWithin (length (fresh_inputs encoded joined setting old now)) x.merges y.merges
      costs-tight cost =
          let m = cost now (leaf-tables (good setting) now leaves) in
          let covers = fresh-pays (λ d. IsKnown d u) (tree_inputs encoded joined setting old) (tree_inputs encoded joined setting now) known in
          let (rest, left) = m.pays clean (fresh_inputs encoded joined setting old now) covers in
          (m.counted.merges.0, (let n = left.0 in omega (arith, n)))

      pub some-tight : CostsSome now u v x y (tree_inputs encoded joined setting now) → RoseWithin (length (fresh_inputs encoded joined setting old now)) x.merges y.merges
      some-tight cost =
          let m = cost now (leaf-tables (good setting) now leaves) in
          let covers = fresh-pays (λ d. IsKnown d u) (tree_inputs encoded joined setting old) (tree_inputs encoded joined setting now) known in
          (m.counted.merges.0, m.paid clean (fresh_inputs encoded joined setting old now) covers)

-- A tree knows its inputs by its pins.
pub tree-known : {J V M : Type 0} (joined : ℕ → V → V → V) (setting : ℕ) (encoded : V → List ℕ) (ts : List (List (List ℕ × V))) (levels : List (List (Group J V M))) (others : List PinName) (v : CallerView) → 0 < length levels → IsTree joined setting encoded ts levels → list_any groups_loose levels ≡ false → Covered v (stands_pins (pair_digest encoded) levels ++ others) → (d : List ℕ) → Contains (tree_inputs encoded joined setting ts) d → IsKnown d v
tree-known joined setting encoded ts levels others v some tree tight covered d c =
    pins-known v (stands_pins (pair_digest encoded) levels) (covered-left v (stands_pins (pair_digest encoded) levels) others covered) d
    (subst (λ (ds : List (List ℕ)). Contains ds d) (sym (tree-digests joined setting encoded ts levels some tree tight)) c)
