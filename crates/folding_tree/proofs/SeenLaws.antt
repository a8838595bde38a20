-- The model of a tree before and after its calls.
use Rattle.std.proofs.Common.{◌≡◌, ◌⊎◌, inl, inr, ℕ, suc, zero, ◌+◌, ◌-◌, ◌*◌, ◌^◌, ◌<◌, ◌≤◌, arith, sym, ap, ◌∙◌, refl, subst, List, [], ◌∷◌, ◌++◌, length, drop, map, append-nil, Option, Some, None, true, false}
use Rattle.std.specs.List.{slice_get, All}
use Rattle.std.specs.Option.{option_map, IsSome}
use Rattle.std.proofs.lemmas.List.{length-map, map-append, drop-map}
use Rattle.std.proofs.lemmas.Bool.{true≢false}
use Rattle.std.proofs.lemmas.List.Elements.{All-head, All-tail, All-nil}
use Rattle.definitions.specs.Tables.{IsGoodJoin}
use Rattle.sheets.specs.Sheets.{SheetOf}
use Rattle.sheets.specs.United.{tables_of}
use Rattle.record_text.specs.declared.shift.Shift.TheVariants.{Slide}
use Rattle.job_laws.specs.declared.meter.Counts.{Counts}
use Rattle.job_laws.specs.Counted.{RoseBy}
use Rattle.record_text.specs.Shifts.{put_at, shifted, IsSlideOf}
use Rattle.pin_table.specs.Views.{CallerView}
use Rattle.pin_table.specs.Covers.{PinName}
use Rattle.tree_laws.specs.Pairs.{PairOf}
use Rattle.tree_laws.specs.Trees.{Leaves, TreeView, bare, IsDrafted, LooseOnlyIf, settled, reverted, IsRoot, IsLeaf, distinct_keys, Seen}
use Rattle.folding_tree.specs.declared.level.Level.{Level}
use Rattle.folding_tree.specs.declared.draft.Draft.{Draft}
use Rattle.folding_tree.specs.declared.standing.Standing.{Standing}
use Rattle.folding_tree.specs.Shapes.{shaped, without, with_fresh, merges_of}
use Rattle.folding_tree.specs.declared.part.Part.{Part}
use Rattle.folding_tree.specs.declared.part.Part.TheVariants.{Shared, Merged}
use Rattle.folding_tree.specs.Levels.{Row, IsPlain, sheets_of, part_sheet, parts_pins, parts_loose, rows_loose}
use Rattle.folding_tree.specs.Folding.{seen_of, rows_of, rows_after, leaves_of, draft_of, shape_of, levels_pins, drafts_pins, IsTree, IsNext, IsDraft, IsFolding, IsAdvanced}
use Rattle.folding_tree.proofs.RootLaws.{tower-root}
use Rattle.tree_laws.specs.Trades.{Trades}
use Rattle.tree_laws.proofs.TradeLaws.{trades-beside}
use Rattle.folding_tree.proofs.BuildLaws.{map-put}
use Rattle.folding_tree.proofs.LevelLaws.{levels-few}

-- A tree with these leaves and this draft.
abbrev tree_of : {V : Type 0} → ℕ → ℕ → Leaves V → Option (Leaves V) → TreeView V
tree_of setting places leaves draft = record { setting = setting; places = places; leaves = leaves; draft = draft }

-- The leaves of a row, by their parts.
abbrev leaves_with : {J V M : Type 0} → (ℕ → Row J V M) → ℕ → ℕ → ℕ → List (Part J V M) → Leaves V
leaves_with rows first height low parts = record { first = first; tables = tables_of (sheets_of parts); loose = rows_loose (suc height) rows; shape = record { height = height; low = low; high = low + length parts } }

abbrev leaves_last : {J V M : Type 0} → ℕ → ℕ → List (Part J V M) → Leaves V
leaves_last first low parts = record { first = first; tables = tables_of (sheets_of parts); loose = parts_loose parts; shape = record { height = 0; low = low; high = low + length parts } }

plain-pins : {J V M : Type 0} (digest_of : PairOf V → List ℕ) (parts : List (Part J V M)) → All IsPlain parts → length (parts_pins digest_of parts) ≡ 0
plain-pins digest_of [] all = refl
plain-pins digest_of (Shared s ∷ parts) all = plain-pins digest_of parts (All-tail IsPlain (Shared s) parts all)
plain-pins digest_of (Merged h ∷ parts) all = absurd (All-head IsPlain (Merged h) parts all)

-- The tables of shifted leaves are the shifted tables.
pub tables-shifted : {V : Type 0} (gone : ℕ) (changed : List ℕ) (news olds : List (SheetOf V)) → tables_of (put_at changed news (drop gone olds) ++ drop (length changed) news) ≡ put_at changed (tables_of news) (drop gone (tables_of olds)) ++ drop (length changed) (tables_of news)
tables-shifted {V} gone changed news olds =
    let entries : SheetOf V → List (List ℕ × V) = λ s. s.entries in
    map-append entries (put_at changed news (drop gone olds)) (drop (length changed) news)
    ∙ ap (λ (xs : List (List (List ℕ × V))). xs ++ map entries (drop (length changed) news)) (map-put entries changed news (drop gone olds))
    ∙ ap (λ (xs : List (List (List ℕ × V))). put_at changed (tables_of news) xs ++ map entries (drop (length changed) news)) (sym (drop-map entries gone olds))
    ∙ ap (λ (xs : List (List (List ℕ × V))). put_at changed (tables_of news) (drop gone (tables_of olds)) ++ xs) (sym (drop-map entries (length changed) news))

-- Rows that are equal at each number are equal.
same-rows : {J V M : Type 0} (f h : ℕ → Row J V M) → ((k : ℕ) → f k ≡ h k) → f ≡ h
same-rows f h same = λ i k. same k i

module _ {J V M : Type 0} (good : ℕ → V → Type 0) (joined : ℕ → V → V → V) (digest_of : PairOf V → List ℕ) (setting places : ℕ) where
  -- Without a draft there are fewer pins than leaves.
  pub folding-few : (at : Standing) (draft : Option Standing) (levels : List (Level J V M)) (drafts : List (Draft J V M)) → IsFolding good joined setting at draft levels drafts → drafts ≡ [] → length (levels_pins digest_of levels ++ drafts_pins digest_of drafts) ≤ length (tables_of (sheets_of (rows_of levels 0).parts)) - 1
  folding-few at draft levels drafts folding none =
      let few = levels-few digest_of joined levels at.height folding.now.tower.over folding.now.tower.above in
      let plain = plain-pins digest_of (rows_of levels 0).parts folding.now.tower.plain in
      let pins : levels_pins digest_of levels ++ drafts_pins digest_of drafts ≡ levels_pins digest_of levels = ap (λ ds. levels_pins digest_of levels ++ drafts_pins digest_of ds) none ∙ append-nil (levels_pins digest_of levels) in
      let n = ap length pins in
      let tables : length (tables_of (sheets_of (rows_of levels 0).parts)) ≡ length (rows_of levels 0).parts = length-map (sheets_of (rows_of levels 0).parts) (λ s. s.entries) ∙ length-map (rows_of levels 0).parts part_sheet in
      omega (arith, few, plain, n, tables)

  -- A tree without leaves.
  pub folding-bare : (at : Standing) (l : Level J V M) → at.height ≡ 0 → at.width ≡ 1 → l.low ≡ 0 → l.nodes.items ≡ [] → IsFolding good joined setting at None (l ∷ []) []
  folding-bare at l height width low none = record {
    deep = omega (arith, height);
    now = record {
      tower = record {
        over = λ k lt. absurd (omega (arith, lt, height));
        above = over_bare;
        plain = subst (All IsPlain) (sym none) (All-nil IsPlain);
        fits = (let n = ap length none in let one : 2 ^ at.height ≡ 1 = ap (λ (h : ℕ). 2 ^ h) height in omega (arith, low, n, one));
      };
      leaves_are = subst (λ (ps : List (Part J V M)). All (IsLeaf good setting) (sheets_of ps)) (sym none) (All-nil (IsLeaf good setting));
      wide = width ∙ sym (ap (λ (h : ℕ). 2 ^ h) height);
    };
    next = refl;
  }
    where
      over_bare : (k : ℕ) → at.height < k → (rows_of (l ∷ []) k).parts ≡ []
      over_bare zero lt = absurd (omega (arith, lt))
      over_bare (suc k) lt = refl

  pub seen-bare : (at : Standing) (l : Level J V M) → at.first ≡ 0 → at.height ≡ 0 → l.low ≡ 0 → l.nodes.items ≡ [] → (seen_of digest_of setting places at None (l ∷ []) []).tree ≡ bare setting places
  seen-bare at l first height low none =
      ap (λ (x : Leaves V). tree_of setting places x None)
      (ap (λ (h : ℕ). leaves_with (rows_of (l ∷ [])) at.first h l.low l.nodes.items) height
      ∙ ap (λ (n : ℕ). leaves_last n l.low l.nodes.items) first
      ∙ ap (λ (n : ℕ). leaves_last 0 n l.nodes.items) low
      ∙ ap (λ (ps : List (Part J V M)). leaves_last 0 0 ps) none)

  module _ (at : Standing) (draft : Option Standing) (levels : List (Level J V M)) (drafts : List (Draft J V M)) (folding : IsFolding good joined setting at draft levels drafts) (seen : Seen V) (is : seen_of digest_of setting places at draft levels drafts ≡ seen) where
    pub seen-pins : seen.pins ≡ levels_pins digest_of levels ++ drafts_pins digest_of drafts
    seen-pins = sym (ap (λ (t : Seen V). t.pins) is)

    pub seen-leaves : leaves_of at (rows_of levels) ≡ seen.tree.leaves
    seen-leaves = ap (λ (t : Seen V). t.tree.leaves) is

    -- Without a draft the model has none.
    pub seen-none : seen.tree.draft ≡ None → draft ≡ None
    seen-none none = by_draft draft (ap (λ (t : Seen V). t.tree.draft) is ∙ none)
      where
        by_draft : (d : Option Standing) → draft_of d levels drafts ≡ None → d ≡ None
        by_draft None e = refl
        by_draft (Some x) e = absurd (let no : ◌≡◌ {A = Option (Leaves V)} (Some (leaves_of x (rows_after levels drafts))) None = e in cc)

    pub seen-some : draft ≡ None → IsSome seen.tree.draft → ⊥
    seen-some none some =
        let no : false ≡ true = subst (λ (o : Option (Leaves V)). IsSome o) (sym (ap (λ (t : Seen V). t.tree.draft) is) ∙ ap (λ (d : Option Standing). draft_of d levels drafts) none) some in
        true≢false (sym no)

    -- Without a draft, dropping it changes nothing, and there are fewer pins than leaves.
    pub seen-plain : draft ≡ None → seen.tree ≡ reverted seen.tree
    seen-plain none = subst (λ (t : TreeView V). t ≡ reverted t) (ap (λ (d : Option Standing). (seen_of digest_of setting places at d levels drafts).tree) (sym none) ∙ ap (λ (t : Seen V). t.tree) is) refl

    pub seen-few : draft ≡ None → length seen.pins ≤ length seen.tree.leaves.tables - 1
    seen-few none = subst (λ (t : Seen V). length t.pins ≤ length t.tree.leaves.tables - 1) is (folding-few at draft levels drafts folding (subst (λ (d : Option Standing). IsDraft good joined setting d levels drafts) none folding.next))

    pub no-drafts : draft ≡ None → drafts ≡ []
    no-drafts none = subst (λ (d : Option Standing). IsDraft good joined setting d levels drafts) none folding.next

    pub some-next : (next : Standing) → draft ≡ Some next → IsNext good joined setting next levels drafts
    some-next next some = subst (λ (d : Option Standing). IsDraft good joined setting d levels drafts) some folding.next

    -- The shift fits the leaves.
    pub seen-fits : (first gone came count : ℕ) (changed : List ℕ) → IsSlideOf seen.tree.leaves.first (length seen.tree.leaves.tables) count first gone changed came → IsSlideOf at.first (length (rows_of levels 0).parts) count first gone changed came
    seen-fits first gone came count changed f =
        let n : length (tables_of (sheets_of (rows_of levels 0).parts)) ≡ length (rows_of levels 0).parts = length-map (sheets_of (rows_of levels 0).parts) (λ s. s.entries) ∙ length-map (rows_of levels 0).parts part_sheet in
        subst (λ (k : ℕ). IsSlideOf at.first k count first gone changed came) n (subst (λ (l : Leaves V). IsSlideOf l.first (length l.tables) count first gone changed came) (sym seen-leaves) f)

    -- The merges of an advance.
    pub seen-counted : (first gone came : ℕ) (changed : List ℕ) (news : List (SheetOf V)) (x y : Counts) → (let n = came + (2 + length changed) * (with_fresh came (without gone (shape_of at.height (rows_of levels 0)))).height in RoseBy 0 n (n * distinct_keys (tables_of (put_at changed news (drop gone (sheets_of (rows_of levels 0).parts)) ++ drop (length changed) news))) x y)
        → RoseBy 0 (merges_of seen.tree.leaves.shape (Slide first gone changed came)) (merges_of seen.tree.leaves.shape (Slide first gone changed came) * distinct_keys (shifted (Slide first gone changed came) (tables_of news) seen.tree.leaves.tables)) x y
    seen-counted first gone came changed news x y h =
        let n : ℕ = came + (2 + length changed) * (with_fresh came (without gone (shape_of at.height (rows_of levels 0)))).height in
        subst (λ (l : Leaves V). RoseBy 0 (merges_of l.shape (Slide first gone changed came)) (merges_of l.shape (Slide first gone changed came) * distinct_keys (shifted (Slide first gone changed came) (tables_of news) l.tables)) x y) seen-leaves
        (subst (λ (ts : List (List (List ℕ × V))). RoseBy 0 n (n * distinct_keys ts) x y) (tables-shifted gone changed news (sheets_of (rows_of levels 0).parts)) h)

    -- The root is the merge of the leaves.
    pub seen-root : IsGoodJoin (good setting) (joined setting) → IsRoot joined seen.tree (option_map part_sheet (slice_get (rows_of levels at.height).parts 0))
    seen-root laws =
        subst (λ (t : Seen V). IsRoot joined t.tree (option_map part_sheet (slice_get (rows_of levels at.height).parts 0))) is
        (tower-root joined good setting laws at.height (rows_of levels) folding.now.tower folding.now.leaves_are)

    -- The draft is settled.
    module _ (next : Standing) (some : draft ≡ Some next) (new : List (Level J V M)) (none : List (Draft J V M)) (gone : none ≡ []) (count : length new ≡ length levels) (rows : (k : ℕ) → rows_of new k ≡ rows_after levels drafts k) where
      pub settled-folding : IsFolding good joined setting next None new none
      settled-folding =
          let n = some-next next some in
          let c = n.count in
          let d = n.deep in
          record {
            deep = omega (arith, c, d, count);
            now = subst (IsTree good joined setting next) (sym (same-rows (rows_of new) (rows_after levels drafts) rows)) n.tree;
            next = gone;
          }

      pub settled-tree : (seen_of digest_of setting places next None new none).tree ≡ settled seen.tree
      settled-tree =
          ap (λ (f : ℕ → Row J V M). tree_of setting places (leaves_of next f) None) (same-rows (rows_of new) (rows_after levels drafts) rows)
          ∙ sym (ap (λ (d : Option Standing). settled (seen_of digest_of setting places at d levels drafts).tree) some)
          ∙ ap (λ (t : Seen V). settled t.tree) is

      pub settled-trade : (u w : CallerView) → Trades u (levels_pins digest_of levels ++ drafts_pins digest_of drafts) w (levels_pins digest_of new) → Trades u seen.pins w (levels_pins digest_of new ++ drafts_pins digest_of none)
      settled-trade u w t =
          subst (λ (ps : List PinName). Trades u ps w (levels_pins digest_of new ++ drafts_pins digest_of none)) (sym seen-pins)
          (subst (λ (qs : List PinName). Trades u (levels_pins digest_of levels ++ drafts_pins digest_of drafts) w qs) (sym (ap (λ ds. levels_pins digest_of new ++ drafts_pins digest_of ds) gone ∙ append-nil (levels_pins digest_of new))) t)

    -- The draft is dropped.
    module _ (none : List (Draft J V M)) (gone : none ≡ []) where
      pub dropped-folding : IsFolding good joined setting at None levels none
      dropped-folding = record { deep = folding.deep; now = folding.now; next = gone }

      pub dropped-tree : (seen_of digest_of setting places at None levels none).tree ≡ reverted seen.tree
      dropped-tree = ap (λ (t : Seen V). reverted t.tree) is

      pub dropped-trade : (u w : CallerView) → Trades u (drafts_pins digest_of drafts) w [] → Trades u seen.pins w (levels_pins digest_of levels ++ drafts_pins digest_of none)
      dropped-trade u w t =
          subst (λ (ps : List PinName). Trades u ps w (levels_pins digest_of levels ++ drafts_pins digest_of none)) (sym seen-pins)
          (subst (λ (ds : List (Draft J V M)). Trades u (levels_pins digest_of levels ++ drafts_pins digest_of drafts) w (levels_pins digest_of levels ++ drafts_pins digest_of ds)) (sym gone) (trades-beside u w (levels_pins digest_of levels) (drafts_pins digest_of drafts) [] t))

    -- An advance, whatever it returns.
    module _ (no_draft : draft ≡ None) (new : List (Level J V M)) (made : List (Draft J V M)) (more : length levels ≤ length new) (rows : (k : ℕ) → rows_of new k ≡ rows_of levels k) (pins : levels_pins digest_of new ≡ levels_pins digest_of levels) where
      pub advanced-trade : (u w : CallerView) → Trades u [] w (drafts_pins digest_of made) → Trades u seen.pins w (levels_pins digest_of new ++ drafts_pins digest_of made)
      advanced-trade u w t =
          subst (λ (ps : List PinName). Trades u ps w (levels_pins digest_of new ++ drafts_pins digest_of made)) (sym (seen-pins ∙ ap (λ ds. levels_pins digest_of levels ++ drafts_pins digest_of ds) (no-drafts no_draft)))
          (subst (λ (qs : List PinName). Trades u (levels_pins digest_of levels ++ []) w (qs ++ drafts_pins digest_of made)) (sym pins) (trades-beside u w (levels_pins digest_of levels) [] (drafts_pins digest_of made) t))

      now_is : IsTree good joined setting at (rows_of new)
      now_is = subst (IsTree good joined setting at) (sym (same-rows (rows_of new) (rows_of levels) rows)) folding.now

      deep_is : at.height < length new
      deep_is = let d = folding.deep in omega (arith, d, more)

      pub refused-folding : made ≡ [] → IsFolding good joined setting at draft new made
      refused-folding none = record { deep = deep_is; now = now_is; next = subst (λ (d : Option Standing). IsDraft good joined setting d new made) (sym no_draft) none }

      same_tree : (d : Option (Leaves V)) → tree_of setting places (leaves_of at (rows_of new)) d ≡ tree_of setting places (leaves_of at (rows_of levels)) d
      same_tree d = ap (λ (f : ℕ → Row J V M). tree_of setting places (leaves_of at f) d) (same-rows (rows_of new) (rows_of levels) rows)

      pub refused-tree : (seen_of digest_of setting places at draft new made).tree ≡ seen.tree
      refused-tree =
          ap (λ (d : Option Standing). tree_of setting places (leaves_of at (rows_of new)) (draft_of d new made)) no_draft
          ∙ same_tree None
          ∙ sym (ap (λ (d : Option Standing). tree_of setting places (leaves_of at (rows_of levels)) (draft_of d levels drafts)) no_draft)
          ∙ ap (λ (t : Seen V). t.tree) is

      module _ (first gone came : ℕ) (changed : List ℕ) (news : List (SheetOf V)) (next : Standing) (ok : IsAdvanced good joined setting at first gone changed came news levels new made next) where
        pub advanced-folding : IsFolding good joined setting at (Some next) new made
        advanced-folding = record { deep = deep_is; now = now_is; next = ok.draft }

        pub advanced-drafted : IsDrafted shaped (Slide first gone changed came) news seen.tree (seen_of digest_of setting places at (Some next) new made).tree
        advanced-drafted =
            record {
              draft = leaves_of next (rows_after new made);
              is = same_tree (Some (leaves_of next (rows_after new made))) ∙ ap (λ (t : Seen V). tree_of t.tree.setting t.tree.places t.tree.leaves (Some (leaves_of next (rows_after new made)))) is;
              of = record {
                first = ok.first_is;
                tables =
                    ap tables_of ok.leaves_are
                    ∙ tables-shifted gone changed news (sheets_of (rows_of levels 0).parts)
                    ∙ ap (λ (l : Leaves V). put_at changed (tables_of news) (drop gone l.tables) ++ drop (length changed) (tables_of news)) seen-leaves;
                shape = ok.shape_is ∙ ap (λ (l : Leaves V). with_fresh came (without gone l.shape)) seen-leaves;
              };
            }

      -- A node of the draft is loose only if one of the tree is, or if the caller met what makes a node loose.
      pub advanced-loose : (X : Type 0) (next : Standing) → (rows_loose (suc next.height) (rows_after new made) ≡ true → (rows_loose (suc at.height) (rows_of levels) ≡ true) ⊎ X) → LooseOnlyIf X seen.tree (seen_of digest_of setting places at (Some next) new made).tree
      advanced-loose X next h draft e loose =
          let some : ◌≡◌ {A = Option (Leaves V)} (Some (leaves_of next (rows_after new made))) (Some draft) = e in
          let same : leaves_of next (rows_after new made) ≡ draft = cc in
          elim (h (ap (λ (l : Leaves V). l.loose) same ∙ loose)) [
            | inl old ↦ inl (sym (ap (λ (l : Leaves V). l.loose) seen-leaves) ∙ old)
            | inr met ↦ inr met
          ]

      pub refused-loose : (X : Type 0) → seen.tree.draft ≡ None → LooseOnlyIf X seen.tree (seen_of digest_of setting places at draft new made).tree
      refused-loose X none other e loose =
          let no : ◌≡◌ {A = Option (Leaves V)} None (Some other) = sym none ∙ sym (ap (λ (t : TreeView V). t.draft) refused-tree) ∙ e in
          absurd (let bad : ◌≡◌ {A = Option (Leaves V)} None (Some other) = no in cc)
