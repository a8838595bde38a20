-- What each call of a tree leaves, as its clauses say it.
use Rattle.std.proofs.Common.{◌≡◌, ◌⊎◌, inl, inr, ℕ, ◌+◌, ◌-◌, ◌*◌, ◌<◌, ◌≤◌, Bool, true, false, List, [], ◌∷◌, ◌++◌, length, map, Option, Some, None, refl, sym, ap, subst, ◌∙◌, arith, append-nil}
use Rattle.std.specs.Prelude.{Contains}
use Rattle.std.specs.List.{All, list_any}
use Rattle.std.proofs.lemmas.List.{length-map}
use Rattle.std.proofs.lemmas.List.Elements.{All-nil, All-cons}
use Rattle.job_laws.specs.declared.meter.Counts.{Counts}
use Rattle.job_laws.specs.Counted.{RoseBy, RoseWithin}
use Rattle.job_laws.proofs.CountLaws.{rose_none, rose_more}
use Rattle.sheets.specs.Sheets.{SheetOf}
use Rattle.sheets.specs.United.{tables_of}
use Rattle.record_text.specs.declared.kind.Kind.TheVariants.{Document}
use Rattle.record_text.specs.declared.shift.Shift.{Shift}
use Rattle.record_text.specs.declared.shift.Shift.TheVariants.{Slide, Splice}
use Rattle.record_text.specs.Shifts.{FitsShift, shifted}
use Rattle.pin_table.specs.Views.{CallerView}
use Rattle.pin_table.specs.Covers.{PinName, AreGiven, Covered, Balanced}
use Rattle.pin_table.specs.OwnEvents.{Met, IsKnown}
use Rattle.pin_table.proofs.Covering.{got-balanced, balanced-then, covered-then, given-append, all-given-later, given-left}
use Rattle.pin_table.proofs.OwnEvents.{any-met-later}
use Rattle.tree_laws.specs.Pairs.{pair_digest}
use Rattle.tree_laws.specs.Trees.{Leaves, bare, no_shape, IsMergeOver, IsDrafted, LooseOnlyIf, settled, reverted, IsLeaf, distinct_keys, Seen}
use Rattle.random_tree.specs.declared.group.Group.{Group}
use Rattle.random_tree.specs.declared.level.Level.{Level}
use Rattle.random_tree.specs.Groups.{alone}
use Rattle.random_tree.specs.Inputs.{tree_inputs, fresh_inputs}
use Rattle.random_tree.specs.Levels.{seen_of, count_after, IsLeafTable, group_table, groups_loose, now_of, fresh_of, taken, IsUndrafted, Fits, HasRoom, bottom, IsTree, leaves_of, IsSound, levels_pins, stands_pins, drafts_pins}
use Rattle.random_tree.specs.Steps.{GainsLevels, AddsEmpty, leaves_then, Drafts, DraftsSome, IsRootOf}
use Rattle.random_tree.proofs.DraftLaws.{whole-alone, levels-more}
use Rattle.random_tree.proofs.PinLaws.{levels-covered, levels-balanced, levels-taken}
use Rattle.random_tree.proofs.TightLaws.{tree-few}
use Rattle.random_tree.proofs.SeenLaws.{undrafted-pins, undrafted-fits, empty-bottom, empty-leaves, empty-pins, taken-loose, splice-fits, splice-all, sheets-leaves, costs-counted, some-counted, costs-tight, some-tight, tree-known}

-- A shift of a document fits any number of places.
pub plain-fits : {X Y : Type 0} (f : X → Y) (most first news : ℕ) (gs : List X) (shift : Shift) → FitsShift Document most first (length (map f gs)) news shift → FitsShift Document 0 0 (length gs) news shift
plain-fits f most first news gs (Slide old gone places came) fits = absurd fits
plain-fits f most first news gs (Splice old gone came) fits = ((let n = length-map gs f in let w = fits.0 in omega (arith, n, w)), fits.1)

module _ {J V M : Type 0} (good : ℕ → V → Type 0) (joined : ℕ → V → V → V) (encoded : V → List ℕ) (setting places : ℕ) where
  abbrev seen : List (Level J V M) → Bool → Seen V
  seen levels drafted = seen_of (pair_digest encoded) setting places levels drafted

  abbrev tables_in : List (Level J V M) → List (List (List ℕ × V))
  tables_in levels = map group_table (bottom (map now_of levels))

  abbrev sound_tree : List (Level J V M) → Bool → Type 0
  sound_tree levels drafted = IsSound good joined encoded setting levels drafted

  -- Without a draft the pins are those of the tree alone.
  bare-pins : (levels : List (Level J V M)) (drafted : Bool) → All IsUndrafted levels → (seen levels drafted).pins ≡ stands_pins (pair_digest encoded) (map now_of levels)
  bare-pins levels drafted none = ap (λ (ps : List PinName). stands_pins (pair_digest encoded) (map now_of levels) ++ ps) (undrafted-pins (pair_digest encoded) levels none) ∙ append-nil (stands_pins (pair_digest encoded) (map now_of levels))

  -- They are fewer than the leaves.
  pub few-pins : (levels : List (Level J V M)) → sound_tree levels false → length (seen levels false).pins ≤ length (seen levels false).tree.leaves.tables - 1
  few-pins levels sound =
      let a = ap length (bare-pins levels false (sound.undrafted refl)) in
      let b = tree-few joined setting encoded (tables_in levels) (map now_of levels) (let n = length-map levels now_of in let s = sound.some in omega (arith, n, s)) sound.now in
      omega (arith, a, b)

  -- Levels whose drafts were dropped, or settled.
  pub bare-sound : (levels : List (Level J V M)) (now : List (List (Group J V M))) → 0 < length levels → map now_of levels ≡ now → All IsUndrafted levels → IsTree joined setting encoded (map group_table (bottom now)) now → All (IsLeafTable (good setting)) (map group_table (bottom now)) → sound_tree levels false
  bare-sound levels now some is none tree leaves = record {
    some = some;
    fits = undrafted-fits levels none;
    now = subst (λ (ls : List (List (Group J V M))). IsTree joined setting encoded (map group_table (bottom ls)) ls) (sym is) tree;
    leaves_are = subst (λ (ls : List (List (Group J V M))). All (IsLeafTable (good setting)) (map group_table (bottom ls))) (sym is) leaves;
    undrafted = λ e. none;
    next = λ e. absurd (let no : false ≡ true = e in cc);
    next_leaves_are = λ e. absurd (let no : false ≡ true = e in cc);
    room = λ e. absurd (let no : false ≡ true = e in cc);
  }

  -- A draft is dropped.
  module _ (old new : List (Level J V M)) (drafted : Bool) (sound : sound_tree old drafted) (same : map now_of new ≡ map now_of old) (none : All IsUndrafted new) (u v : CallerView) (balanced : Balanced u (levels_pins (pair_digest encoded) old) v (levels_pins (pair_digest encoded) new)) where
    same-some : 0 < length new
    same-some = let a = ap length same in let b = length-map new now_of in let c = length-map old now_of in let s = sound.some in omega (arith, a, b, c, s)

    pub reverted-sound : sound_tree new false
    reverted-sound = bare-sound new (map now_of old) same-some same none sound.now sound.leaves_are

    pub reverted-view : (seen new false).tree ≡ reverted (seen old drafted).tree
    reverted-view = λ i. record { setting = setting; places = places; leaves = leaves_of (same i); draft = None }

    pub reverted-balanced : Balanced u (seen old drafted).pins v (seen new false).pins
    reverted-balanced = levels-balanced (pair_digest encoded) u v old new balanced

    pub reverted-covered : Covered u (seen old drafted).pins → Covered v (seen new false).pins
    reverted-covered covered =
        covered-then u v (seen old drafted).pins (seen new false).pins covered reverted-balanced
        (subst (AreGiven v) (sym (bare-pins new false none ∙ ap (stands_pins (pair_digest encoded)) same))
        (all-given-later u v (stands_pins (pair_digest encoded) (map now_of old)) balanced.later (given-left u (stands_pins (pair_digest encoded) (map now_of old)) (drafts_pins (pair_digest encoded) old) covered.given)))

  -- A draft is settled.
  module _ (old new : List (Level J V M)) (sound : sound_tree old true) (same : map now_of new ≡ map taken old) (none : All IsUndrafted new) (u v : CallerView) (balanced : Balanced u (levels_pins (pair_digest encoded) old) v (levels_pins (pair_digest encoded) new)) where
    pub settled-sound : sound_tree new false
    settled-sound = bare-sound new (map taken old) (let a = ap length same in let b = length-map new now_of in let c = length-map old taken in let s = sound.some in omega (arith, a, b, c, s)) same none (sound.next refl) (sound.next_leaves_are refl)

    pub settled-view : (seen new false).tree ≡ settled (seen old true).tree
    settled-view = λ i. record { setting = setting; places = places; leaves = leaves_of (same i); draft = None }

    pub settled-balanced : Balanced u (seen old true).pins v (seen new false).pins
    settled-balanced = levels-balanced (pair_digest encoded) u v old new balanced

    pub settled-covered : Covered u (seen old true).pins → Covered v (seen new false).pins
    settled-covered covered =
        covered-then u v (seen old true).pins (seen new false).pins covered settled-balanced
        (subst (AreGiven v) (sym (bare-pins new false none ∙ ap (stands_pins (pair_digest encoded)) same))
        (levels-taken (pair_digest encoded) v old (all-given-later u v (levels_pins (pair_digest encoded) old) balanced.later (levels-covered (pair_digest encoded) u old covered).given)))

  -- A tree without leaves.
  pub fresh-sound : (levels : List (Level J V M)) (l : Level J V M) → levels ≡ l ∷ [] → now_of l ≡ [] → IsUndrafted l → sound_tree levels false
  fresh-sound levels l is empty none =
      let now : map now_of levels ≡ [] ∷ [] = ap (map now_of) is ∙ ap (λ (gs : List (Group J V M)). gs ∷ []) empty in
      bare-sound levels ([] ∷ []) (let n = ap length is in omega (arith, n)) now (subst (All IsUndrafted) (sym is) (All-cons IsUndrafted l [] none (All-nil IsUndrafted))) (tt, refl) (All-nil (IsLeafTable (good setting)))

  pub fresh-view : (levels : List (Level J V M)) (l : Level J V M) → levels ≡ l ∷ [] → now_of l ≡ [] → (seen levels false).tree ≡ bare setting places
  fresh-view levels l is empty =
      let now : map now_of levels ≡ [] ∷ [] = ap (map now_of) is ∙ ap (λ (gs : List (Group J V M)). gs ∷ []) empty in
      λ i. record { setting = setting; places = places; leaves = leaves_of (now i); draft = None }

  pub fresh-pins : (levels : List (Level J V M)) (l : Level J V M) → levels ≡ l ∷ [] → now_of l ≡ [] → IsUndrafted l → (seen levels false).pins ≡ []
  fresh-pins levels l is empty none =
      let now : map now_of levels ≡ [] ∷ [] = ap (map now_of) is ∙ ap (λ (gs : List (Group J V M)). gs ∷ []) empty in
      bare-pins levels false (subst (All IsUndrafted) (sym is) (All-cons IsUndrafted l [] none (All-nil IsUndrafted))) ∙ ap (stands_pins (pair_digest encoded)) now

  -- The root of the levels is that of the tree.
  pub root-read : (levels : List (Level J V M)) (drafted : Bool) (root : Option (SheetOf V)) → sound_tree levels drafted → IsRootOf good joined encoded (map now_of levels) root → IsMergeOver joined setting (tables_in levels) root
  root-read levels drafted root sound over =
      let whole_is = whole-alone joined setting (tables_in levels) in
      subst (λ (ts : List (List (List ℕ × V))). IsMergeOver joined setting ts root) whole_is
      (over setting (map alone (tables_in levels)) sound.now (subst (All (IsLeafTable (good setting))) (sym whole_is) sound.leaves_are))

  -- An advance of a tree without a draft.
  module _ (shift : Shift) (news : List (SheetOf V)) (most first : ℕ) (old new : List (Level J V M)) (sound : sound_tree old false) (fits : FitsShift Document most first (length (tables_in old)) (length news) shift) (adds : AddsEmpty (map now_of old) (map now_of new)) (some : 0 < length new) (u v : CallerView) (x y : Counts) (gains : GainsLevels (pair_digest encoded) u v new) where
    some-old : 0 < length (map now_of old)
    some-old = let n = length-map old now_of in let s = sound.some in omega (arith, n, s)

    none-old : All IsUndrafted old
    none-old = sound.undrafted refl

    same-tables : tables_in new ≡ tables_in old
    same-tables = ap (map group_table) (empty-bottom (map now_of old) (map now_of new) some-old adds)

    now-tree : IsTree joined setting encoded (tables_in new) (map now_of new)
    now-tree =
        subst (λ (ts : List (List (List ℕ × V))). IsTree joined setting encoded ts (map now_of new)) (sym same-tables)
        (subst (λ (ls : List (List (Group J V M))). IsTree joined setting encoded (tables_in old) ls) (sym adds.1)
        (levels-more joined setting encoded (map alone (tables_in old)) (map now_of old) adds.0 sound.now adds.2))

    now-leaves : All (IsLeafTable (good setting)) (tables_in new)
    now-leaves = subst (All (IsLeafTable (good setting))) (sym same-tables) sound.leaves_are

    same-leaves : leaves_of (map now_of new) ≡ leaves_of (map now_of old)
    same-leaves = empty-leaves (map now_of old) (map now_of new) some-old adds

    -- Its pins, with those of the draft.
    old-pins : (seen old false).pins ≡ stands_pins (pair_digest encoded) (map now_of new)
    old-pins = bare-pins old false none-old ∙ sym (empty-pins (pair_digest encoded) (map now_of old) (map now_of new) adds)

    pub advanced-balanced : (drafted : Bool) → Balanced u (seen old false).pins v (seen new drafted).pins
    advanced-balanced drafted =
        subst (λ (ps : List PinName). Balanced u ps v (seen new drafted).pins) (sym old-pins)
        (got-balanced u v (stands_pins (pair_digest encoded) (map now_of new)) (drafts_pins (pair_digest encoded) new) gains.gets.0)

    pub advanced-covered : (drafted : Bool) → Covered u (seen old false).pins → Covered v (seen new drafted).pins
    advanced-covered drafted covered =
        covered-then u v (seen old false).pins (seen new drafted).pins covered (advanced-balanced drafted)
        (given-append v (stands_pins (pair_digest encoded) (map now_of new)) (drafts_pins (pair_digest encoded) new)
        (all-given-later u v (stands_pins (pair_digest encoded) (map now_of new)) gains.gets.0.later (subst (AreGiven u) old-pins covered.given)) gains.gets.1)

    -- The pins of the levels, as reverting asks for them.
    pub advanced-levels : Covered u (seen old false).pins → Covered v (levels_pins (pair_digest encoded) new)
    advanced-levels covered = levels-covered (pair_digest encoded) v new (advanced-covered false covered)

    old-known : list_any groups_loose (map now_of old) ≡ false → Covered u (seen old false).pins → (d : List ℕ) → Contains (tree_inputs encoded joined setting (tables_in old)) d → IsKnown d u
    old-known tight covered = tree-known joined setting encoded (tables_in old) (map now_of old) (drafts_pins (pair_digest encoded) old) u some-old sound.now tight covered

    counts : length (shifted shift (tables_of news) (tables_in old)) ≡ count_after shift (length (tables_in old))
    counts = (splice-fits most first (length (tables_in old)) (length news) shift (tables_of news) (tables_in old) refl (let n = length-map news (λ (s : SheetOf V). s.entries) in sym n) fits).1

    tables-then : All (IsLeaf good setting) news → All (IsLeafTable (good setting)) (leaves_then shift news old)
    tables-then news_sound = splice-all (IsLeafTable (good setting)) most first (length (tables_in old)) (length news) shift (tables_of news) (tables_in old) fits (sheets-leaves good setting news news_sound) sound.leaves_are

    -- Memory ran out on the way.
    pub some-rose : DraftsSome joined setting encoded good shift news u v x y old → RoseBy 0 (count_after shift (length (tables_in old)) - 1) ((count_after shift (length (tables_in old)) - 1) * distinct_keys (shifted shift (tables_of news) (tables_in old))) x y
    some-rose (inl same) = subst (λ (z : Counts). RoseBy 0 (count_after shift (length (tables_in old)) - 1) ((count_after shift (length (tables_in old)) - 1) * distinct_keys (shifted shift (tables_of news) (tables_in old))) x z) (sym same)
        (rose_more 0 0 0 0 (count_after shift (length (tables_in old)) - 1) ((count_after shift (length (tables_in old)) - 1) * distinct_keys (shifted shift (tables_of news) (tables_in old))) x x (omega arith) (omega arith) (omega arith) (rose_none x))
    some-rose (inr cost) = some-counted good joined setting encoded (leaves_then shift news old) (tables-then cost.0) u v x y (count_after shift (length (tables_in old))) counts cost.1

    pub some-paid : DraftsSome joined setting encoded good shift news u v x y old → list_any groups_loose (map now_of old) ≡ false → Covered u (seen old false).pins → (Met u v → ⊥) → RoseWithin (length (fresh_inputs encoded joined setting (tables_in old) (shifted shift (tables_of news) (tables_in old)))) x.merges y.merges
    some-paid (inl same) tight covered clean = let n = ap (λ (c : Counts). c.merges) same in (omega (arith, n), omega (arith, n))
    some-paid (inr cost) tight covered clean = some-tight good joined setting encoded (leaves_then shift news old) (tables-then cost.0) u v x y (count_after shift (length (tables_in old))) counts (tables_in old) (old-known tight covered) clean cost.1

    -- The drafts that were begun are dropped.
    module _ (back : List (Level J V M)) (same : map now_of back ≡ map now_of new) (none : All IsUndrafted back) (w : CallerView) (balanced : Balanced v (levels_pins (pair_digest encoded) new) w (levels_pins (pair_digest encoded) back)) where
      pub failed-sound : sound_tree back false
      failed-sound = bare-sound back (map now_of new) (let a = ap length same in let b = length-map back now_of in let c = length-map new now_of in let s = some in omega (arith, a, b, c, s)) same none now-tree now-leaves

      pub failed-view : (seen back false).tree ≡ (seen old false).tree
      failed-view = let is = ap leaves_of same ∙ same-leaves in λ i. record { setting = setting; places = places; leaves = is i; draft = None }

      pub failed-balanced : Balanced u (seen old false).pins w (seen back false).pins
      failed-balanced = balanced-then u v w (seen old false).pins (seen new false).pins (seen back false).pins (advanced-balanced false) (levels-balanced (pair_digest encoded) v w new back balanced)

      pub failed-covered : Covered u (seen old false).pins → Covered w (seen back false).pins
      failed-covered covered =
          covered-then u w (seen old false).pins (seen back false).pins covered failed-balanced
          (subst (AreGiven w) (sym (bare-pins back false none ∙ ap (stands_pins (pair_digest encoded)) same))
          (all-given-later u w (stands_pins (pair_digest encoded) (map now_of new)) failed-balanced.later (subst (AreGiven u) old-pins covered.given)))

      pub failed-paid : DraftsSome joined setting encoded good shift news u v x y old → list_any groups_loose (map now_of old) ≡ false → Covered u (seen old false).pins → (Met u w → ⊥) → RoseWithin (length (fresh_inputs encoded joined setting (tables_in old) (shifted shift (tables_of news) (tables_in old)))) x.merges y.merges
      failed-paid cost tight covered clean = some-paid cost tight covered (λ met. clean (any-met-later u v w balanced.later met))

    module _ (news_sound : All (IsLeaf good setting) news) where
      then-leaves : All (IsLeafTable (good setting)) (leaves_then shift news old)
      then-leaves = tables-then news_sound

      -- There is a draft.
      module _ (drafts : Drafts joined setting encoded shift news u v x y old new) (all_fit : All Fits new) (room : All HasRoom new) where
        pub drafted-sound : sound_tree new true
        drafted-sound = record {
          some = some;
          fits = all_fit;
          now = now-tree;
          leaves_are = now-leaves;
          undrafted = λ e. absurd (let no : true ≡ false = e in cc);
          next = λ e. subst (λ (ts : List (List (List ℕ × V))). IsTree joined setting encoded ts (map taken new)) (sym drafts.leaves) drafts.tree;
          next_leaves_are = λ e. subst (All (IsLeafTable (good setting))) (sym drafts.leaves) then-leaves;
          room = λ e. room;
        }

        pub drafted-view : IsDrafted (λ shape s. no_shape) shift news (seen old false).tree (seen new true).tree
        drafted-view = record {
          draft = leaves_of (map taken new);
          is = λ i. record { setting = setting; places = places; leaves = same-leaves i; draft = Some (leaves_of (map taken new)) };
          of = record {
            first = sym (splice-fits most first (length (tables_in old)) (length news) shift (tables_of news) (tables_in old) refl (let n = length-map news (λ (s : SheetOf V). s.entries) in sym n) fits).0;
            tables = drafts.leaves;
            shape = refl;
          };
        }

        pub drafted-loose : LooseOnlyIf (Met u v) (seen old false).tree (seen new true).tree
        drafted-loose draft is loose =
            let same : leaves_of (map taken new) ≡ draft = (let s : Some (leaves_of (map taken new)) ≡ Some draft = is in cc) in
            go (taken-loose new (ap (λ (l : Leaves V). l.loose) same ∙ loose))
          where
            go : (list_any groups_loose (map now_of new) ≡ true) ⊎ (list_any (λ l. groups_loose (fresh_of l)) new ≡ true) → (list_any groups_loose (map now_of old) ≡ true) ⊎ Met u v
            go (inl h) = inl (sym (ap (λ (l : Leaves V). l.loose) same-leaves) ∙ h)
            go (inr h) = inr (gains.loose h)

        pub drafted-rose : RoseBy 0 (count_after shift (length (tables_in old)) - 1) ((count_after shift (length (tables_in old)) - 1) * distinct_keys (shifted shift (tables_of news) (tables_in old))) x y
        drafted-rose = costs-counted good joined setting encoded (leaves_then shift news old) then-leaves u v x y (count_after shift (length (tables_in old))) counts drafts.cost

        pub drafted-paid : list_any groups_loose (map now_of old) ≡ false → Covered u (seen old false).pins → (Met u v → ⊥) → RoseWithin (length (fresh_inputs encoded joined setting (tables_in old) (shifted shift (tables_of news) (tables_in old)))) x.merges y.merges
        drafted-paid tight covered clean = costs-tight good joined setting encoded (leaves_then shift news old) then-leaves u v x y (count_after shift (length (tables_in old))) counts (tables_in old) (old-known tight covered) clean drafts.cost
