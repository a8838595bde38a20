-- The lowest level under a splice, and the tree over it.
use Rattle.std.proofs.Common.{◌≡◌, ℕ, ◌+◌, ◌-◌, ◌^◌, ◌<◌, ◌≤◌, true, false, List, [], ◌∷◌, ◌++◌, length, map, take, drop, refl, sym, ap, subst, ◌∙◌, arith, append_assoc}
use Rattle.std.specs.List.{All}
use Rattle.std.proofs.lemmas.List.{map-append, length-map}
use Rattle.std.proofs.lemmas.List.Elements.{All-head, All-tail, All-nil, All-cons, All-append, All-weaker}
use Rattle.definitions.specs.Tables.{merged}
use Rattle.job_laws.specs.declared.meter.Counts.{Counts}
use Rattle.sheets.specs.Sheets.{SheetOf}
use Rattle.sheets.specs.United.{tables_of}
use Rattle.record_text.specs.declared.shift.Shift.{Shift}
use Rattle.record_text.specs.declared.shift.Shift.TheVariants.{Splice}
use Rattle.record_text.specs.Shifts.{shifted}
use Rattle.pin_table.specs.Views.{CallerView}
use Rattle.tree_laws.specs.Trees.{distinct_keys}
use Rattle.tree_laws.specs.declared.hold.Hold.{Hold}
use Rattle.random_tree.specs.declared.group.Group.{Group}
use Rattle.random_tree.specs.declared.level.Level.{Level}
use Rattle.random_tree.specs.Groups.{Members, alone, groups_of, whole}
use Rattle.random_tree.specs.Inputs.{is_marked, input_of, tree_inputs}
use Rattle.random_tree.specs.Payments.{Merged, MergedSome}
use Rattle.random_tree.specs.Levels.{last_sheet, group_sheet, group_table, AreMerges, now_of, fresh_of, taken, bottom, IsUndrafted, AreOver, AreLevels, IsTree, groups_above, IsTableOf}
use Rattle.random_tree.specs.Steps.{AreLeaves, StagesLeaves, AddsEmpty, AddsLevels, inputs_up, leaves_then, Raises, RaisesSome, Drafts, TreeSome}
use Rattle.random_tree.proofs.InputLaws.{inputs-all}
use Rattle.random_tree.proofs.LevelLaws.{over-take, over-drop, over-append, over-tables}
use Rattle.random_tree.proofs.FillLaws.{map-drop, map-take}

pub whole-alone : {V : Type 0} (joined : ℕ → V → V → V) (setting : ℕ) (ts : List (List (List ℕ × V))) → map (whole (merged (joined setting))) (map alone ts) ≡ ts
whole-alone joined setting [] = refl
whole-alone joined setting (t ∷ ts) = ap (λ us. t ∷ us) (whole-alone joined setting ts)

module _ {J V M : Type 0} where
  leaf_sheet : (g : Group J V M) (s : SheetOf V) → g.first ≡ s → g.holds.items ≡ [] → group_sheet g ≡ s
  leaf_sheet g s first none = ap (last_sheet g.first) none ∙ first

  leaves-tables : (ss : List (SheetOf V)) (gs : List (Group J V M)) → AreLeaves ss gs → map group_table gs ≡ tables_of ss
  leaves-tables [] [] are = refl
  leaves-tables [] (g ∷ gs) are = absurd are
  leaves-tables (s ∷ ss) [] are = absurd are
  leaves-tables (s ∷ ss) (g ∷ gs) are =
      let head : group_table g ≡ s.entries = ap (λ (t : SheetOf V). t.entries) (leaf_sheet g s are.0 are.1) in
      let rest = leaves-tables ss gs are.3 in
      λ i. head i ∷ rest i

  pub leaves-length : (ss : List (SheetOf V)) (gs : List (Group J V M)) → AreLeaves ss gs → length gs ≡ length ss
  leaves-length ss gs are = let a = ap length (leaves-tables ss gs are) in let b = length-map gs (λ (g : Group J V M). group_table g) in let c = length-map ss (λ (s : SheetOf V). s.entries) in omega (arith, a, b, c)

  -- One leaf more.
  pub leaves-push : (ss : List (SheetOf V)) (gs : List (Group J V M)) (s : SheetOf V) (g : Group J V M) → AreLeaves ss gs → g.first ≡ s → g.holds.items ≡ [] → g.ended ≡ false → AreLeaves (ss ++ s ∷ []) (gs ++ g ∷ [])
  leaves-push [] [] s g are first none opened = (first, none, opened, tt)
  leaves-push [] (h ∷ gs) s g are first none opened = absurd are
  leaves-push (r ∷ ss) [] s g are first none opened = absurd are
  leaves-push (r ∷ ss) (h ∷ gs) s g are first none opened = (are.0, are.1, are.2, leaves-push ss gs s g are.3 first none opened)

  pub leaves-plain : (ss : List (SheetOf V)) (gs : List (Group J V M)) → AreLeaves ss gs → All (λ g. g.holds.items ≡ []) gs
  leaves-plain [] [] are = All-nil (λ (g : Group J V M). g.holds.items ≡ [])
  leaves-plain [] (g ∷ gs) are = absurd are
  leaves-plain (s ∷ ss) [] are = absurd are
  leaves-plain (s ∷ ss) (g ∷ gs) are = All-cons (λ (h : Group J V M). h.holds.items ≡ []) g gs are.1 (leaves-plain ss gs are.3)

  bottom-more : (old more : List (Level J V M)) → 0 < length old → bottom (map now_of (old ++ more)) ≡ bottom (map now_of old)
  bottom-more [] more some = absurd (omega (arith, some))
  bottom-more (l ∷ old) more some = refl

  module _ (joined : ℕ → V → V → V) (setting : ℕ) (encoded : V → List ℕ) where
    pub leaves-over : (ss : List (SheetOf V)) (gs : List (Group J V M)) → AreLeaves ss gs → All (λ s. s.setting ≡ setting) ss → AreOver joined setting encoded (map alone (tables_of ss)) gs
    leaves-over [] [] are set = tt
    leaves-over [] (g ∷ gs) are set = absurd are
    leaves-over (s ∷ ss) [] are set = absurd are
    leaves-over (s ∷ ss) (g ∷ gs) are set =
        let at = All-head (λ (t : SheetOf V). t.setting ≡ setting) s ss set in (
          record {
            first_is = are.0 ∙ (λ i. record { setting = at i; entries = s.entries });
            holds_are = subst (λ (hs : List (Hold J V M)). AreMerges joined setting s.entries [] hs) (sym are.1) tt;
            ended_is = λ e. absurd (let no : false ≡ true = sym are.2 ∙ e in cc);
          },
          leaves-over ss gs are.3 (All-tail (λ (t : SheetOf V). t.setting ≡ setting) s ss set),
        )

    -- The levels above the leaves.
    pub tree-levels : (ts : List (List (List ℕ × V))) (gs : List (Group J V M)) (levels : List (List (Group J V M))) → IsTree joined setting encoded ts (gs ∷ levels) → AreOver joined setting encoded (map alone ts) gs × (map group_table gs ≡ ts) × AreLevels joined setting encoded (groups_of (is_marked encoded) (map group_table gs)) levels
    tree-levels ts gs levels tree =
        let same : map group_table gs ≡ ts = over-tables joined setting encoded (map alone ts) gs tree.0 ∙ whole-alone joined setting ts in
        (tree.0, same, subst (λ (us : List (List (List ℕ × V))). AreLevels joined setting encoded (groups_of (is_marked encoded) us) levels) (whole-alone joined setting ts ∙ sym same) tree.1)

    pub levels-tree : (ts : List (List (List ℕ × V))) (gs : List (Group J V M)) (levels : List (List (Group J V M))) → AreOver joined setting encoded (map alone ts) gs → AreLevels joined setting encoded (groups_of (is_marked encoded) ts) levels → IsTree joined setting encoded ts (gs ∷ levels)
    levels-tree ts gs levels over above = (over, subst (λ (us : List (List (List ℕ × V))). AreLevels joined setting encoded (groups_of (is_marked encoded) us) levels) (sym (whole-alone joined setting ts)) above)

    -- Levels without groups above the others change no tree.
    pub levels-more : (mss : List (Members (List (List ℕ × V)))) (levels more : List (List (Group J V M))) → AreLevels joined setting encoded mss levels → All (λ gs. gs ≡ []) more → AreLevels joined setting encoded mss (levels ++ more)
    levels-more mss [] [] are none = are
    levels-more mss [] (gs ∷ more) are none = (
      subst (λ (hs : List (Group J V M)). AreOver joined setting encoded mss hs) (sym (All-head (λ (hs : List (Group J V M)). hs ≡ []) gs more none))
          (subst (λ (m : List (Members (List (List ℕ × V)))). AreOver {J = J} {V = V} {M = M} joined setting encoded m []) (sym are) tt),
      levels-more (groups_above joined setting encoded mss) [] more (ap (groups_above joined setting encoded) are) (All-tail (λ (hs : List (Group J V M)). hs ≡ []) gs more none),
    )
    levels-more mss (gs ∷ levels) more are none = (are.0, levels-more (groups_above joined setting encoded mss) levels more are.1 none)

    -- The tables of the leaves under a splice.
    pub staged-tables : (first gone : ℕ) (news : List (SheetOf V)) (l : Level J V M) → StagesLeaves first gone news l → map group_table (taken l) ≡ (take first (map group_table (now_of l)) ++ tables_of news) ++ drop (first + gone) (map group_table (now_of l))
    staged-tables first gone news l staged =
        map-append group_table (take l.draft.first (now_of l)) (fresh_of l ++ drop (l.draft.first + l.draft.gone) (now_of l))
        ∙ ((λ i. map-take group_table (staged.0 i) (now_of l) i ++ (map-append group_table (fresh_of l) (drop (staged.0 i + staged.1 i) (now_of l)) i))
        ∙ ((λ i. take first (map group_table (now_of l)) ++ (leaves-tables news (fresh_of l) staged.2 i ++ map-drop group_table (first + gone) (now_of l) i))
        ∙ sym (append_assoc (take first (map group_table (now_of l))) (tables_of news) (drop (first + gone) (map group_table (now_of l))))))

    pub staged-over : (ts : List (List (List ℕ × V))) (first gone : ℕ) (news : List (SheetOf V)) (l : Level J V M) → StagesLeaves first gone news l → All (λ s. s.setting ≡ setting) news → AreOver joined setting encoded (map alone ts) (now_of l) → AreOver joined setting encoded (map alone ((take first ts ++ tables_of news) ++ drop (first + gone) ts)) (taken l)
    staged-over ts first gone news l staged set over =
        let front : AreOver joined setting encoded (take l.draft.first (map alone ts)) (take l.draft.first (now_of l)) = over-take joined setting encoded l.draft.first (map alone ts) (now_of l) over in
        let back : AreOver joined setting encoded (drop (l.draft.first + l.draft.gone) (map alone ts)) (drop (l.draft.first + l.draft.gone) (now_of l)) = over-drop joined setting encoded (l.draft.first + l.draft.gone) (map alone ts) (now_of l) over in
        let one : take l.draft.first (map alone ts) ≡ map alone (take first ts) = ap (λ (n : ℕ). take n (map alone ts)) staged.0 ∙ sym (map-take alone first ts) in
        let two : drop (l.draft.first + l.draft.gone) (map alone ts) ≡ map alone (drop (first + gone) ts) = (λ i. drop (staged.0 i + staged.1 i) (map alone ts)) ∙ sym (map-drop alone (first + gone) ts) in
        let all : map alone ((take first ts ++ tables_of news) ++ drop (first + gone) ts) ≡ map alone (take first ts) ++ (map alone (tables_of news) ++ map alone (drop (first + gone) ts)) =
        map-append alone (take first ts ++ tables_of news) (drop (first + gone) ts)
        ∙ (ap (λ (mss : List (Members (List (List ℕ × V)))). mss ++ map alone (drop (first + gone) ts)) (map-append alone (take first ts) (tables_of news))
        ∙ append_assoc (map alone (take first ts)) (map alone (tables_of news)) (map alone (drop (first + gone) ts))) in
        subst (λ (mss : List (Members (List (List ℕ × V)))). AreOver joined setting encoded mss (taken l))
        ((λ i. one i ++ (map alone (tables_of news) ++ two i)) ∙ sym all)
        (over-append joined setting encoded (take l.draft.first (map alone ts)) (map alone (tables_of news) ++ drop (l.draft.first + l.draft.gone) (map alone ts)) (take l.draft.first (now_of l)) (fresh_of l ++ drop (l.draft.first + l.draft.gone) (now_of l)) front
        (over-append joined setting encoded (map alone (tables_of news)) (drop (l.draft.first + l.draft.gone) (map alone ts)) (fresh_of l) (drop (l.draft.first + l.draft.gone) (now_of l)) (leaves-over news (fresh_of l) staged.2 set) back))

module _ {J V M : Type 0} (joined : ℕ → V → V → V) (setting : ℕ) (encoded : V → List ℕ) where
  -- The tables of the lowest level, once levels without groups were added.
  pub bottom-is : (old : List (Level J V M)) (l : Level J V M) (levels : List (Level J V M)) → 0 < length old → AddsLevels old (l ∷ levels) → bottom (map now_of old) ≡ now_of l
  bottom-is old l levels some adds = sym (bottom-more old adds.0 some) ∙ sym (ap (λ (ls : List (Level J V M)). bottom (map now_of ls)) adds.1)

  -- The tree with these levels.
  pub added-tree : (old levels : List (Level J V M)) (ts : List (List (List ℕ × V))) → AddsLevels old levels → IsTree joined setting encoded ts (map now_of old) → IsTree joined setting encoded ts (map now_of levels)
  added-tree old levels ts adds tree =
      subst (λ (ls : List (List (Group J V M))). IsTree joined setting encoded ts ls) (sym (ap (map now_of) adds.1 ∙ map-append now_of old adds.0))
      (levels-more joined setting encoded (map alone ts) (map now_of old) (map now_of adds.0) tree (none adds.0 adds.2))
    where
      none : (more : List (Level J V M)) → All (λ l. (now_of l ≡ []) × IsUndrafted l) more → All (λ gs. gs ≡ []) (map now_of more)
      none [] all = All-nil (λ (gs : List (Group J V M)). gs ≡ [])
      none (l ∷ more) all = All-cons (λ (gs : List (Group J V M)). gs ≡ []) (now_of l) (map now_of more) (All-head (λ (k : Level J V M). (now_of k ≡ []) × IsUndrafted k) l more all).0 (none more (All-tail (λ (k : Level J V M). (now_of k ≡ []) × IsUndrafted k) l more all))

  pub added-empty : (old levels new : List (Level J V M)) → AddsLevels old levels → map now_of new ≡ map now_of levels → AddsEmpty (map now_of old) (map now_of new)
  added-empty old levels new adds same = (map now_of adds.0, same ∙ (ap (map now_of) adds.1 ∙ map-append now_of old adds.0), none adds.0 adds.2)
    where
      none : (more : List (Level J V M)) → All (λ l. (now_of l ≡ []) × IsUndrafted l) more → All (λ gs. gs ≡ []) (map now_of more)
      none [] all = All-nil (λ (gs : List (Group J V M)). gs ≡ [])
      none (l ∷ more) all = All-cons (λ (gs : List (Group J V M)). gs ≡ []) (now_of l) (map now_of more) (All-head (λ (k : Level J V M). (now_of k ≡ []) × IsUndrafted k) l more all).0 (none more (All-tail (λ (k : Level J V M). (now_of k ≡ []) × IsUndrafted k) l more all))

  pub added-undrafted : (old levels : List (Level J V M)) → AddsLevels old levels → All IsUndrafted old → All IsUndrafted levels
  added-undrafted old levels adds all = subst (All IsUndrafted) (sym adds.1) (All-append IsUndrafted old adds.0 all (All-weaker (λ (k : Level J V M). (now_of k ≡ []) × IsUndrafted k) IsUndrafted (λ k u. u.1) adds.0 adds.2))

  module _ (shift : Shift) (first gone came : ℕ) (is : shift ≡ Splice first gone came) (news : List (SheetOf V)) (u v : CallerView) (x y : Counts) (old : List (Level J V M)) (l new : Level J V M) (levels above : List (Level J V M))
      (some : 0 < length old) (adds : AddsLevels old (l ∷ levels)) (same : now_of new ≡ now_of l) (staged : StagesLeaves first gone news new) where
    -- The lowest level has the leaves after the shift.
    pub staged-leaves : map group_table (taken new) ≡ leaves_then shift news old
    staged-leaves =
        staged-tables joined setting encoded first gone news new staged
        ∙ ((λ i. (take first (tables i) ++ tables_of news) ++ drop (first + gone) (tables i))
        ∙ ap (λ (s : Shift). shifted s (tables_of news) (map group_table (bottom (map now_of old)))) (sym is))
      where
        tables : map group_table (now_of new) ≡ map group_table (bottom (map now_of old))
        tables = ap (map group_table) (same ∙ sym (bottom-is old l levels some adds))

    pub staged-level : All (λ s. s.setting ≡ setting) news → IsTree joined setting encoded (map group_table (bottom (map now_of old))) (map now_of old) → AreOver joined setting encoded (map alone (leaves_then shift news old)) (taken new)
    staged-level set tree =
        let ts = map group_table (bottom (map now_of old)) in
        let under = added-tree old (l ∷ levels) ts adds tree in
        subst (λ (s : Shift). AreOver joined setting encoded (map alone (shifted s (tables_of news) ts)) (taken new)) (sym is)
        (staged-over joined setting encoded ts first gone news new staged set (subst (λ (gs : List (Group J V M)). AreOver joined setting encoded (map alone ts) gs) (sym same) under.0))

    pub drafts-ok : All (λ s. s.setting ≡ setting) news → IsTree joined setting encoded (map group_table (bottom (map now_of old))) (map now_of old) → length (map group_table (taken new)) ≤ 2 ^ length above
        → Raises joined setting encoded (map group_table (taken new)) u v x y (map taken above) → Drafts joined setting encoded shift news u v x y old (new ∷ above)
    drafts-ok set tree enough raises = record {
      leaves = staged-leaves;
      tree = levels-tree joined setting encoded (leaves_then shift news old) (taken new) (map taken above) (staged-level set tree)
          (subst (λ (us : List (List (List ℕ × V))). AreLevels joined setting encoded (groups_of (is_marked encoded) us) (map taken above)) staged-leaves raises.0);
      cost = λ all tables.
          subst (λ (us : List (List (List ℕ × V))). Merged (distinct_keys all) u v x y (tree_inputs encoded joined setting us)) staged-leaves
          (subst (λ (ds : List (List ℕ)). Merged (distinct_keys all) u v x y ds)
          (ap (λ (k : ℕ). inputs_up joined setting encoded k (map group_table (taken new))) (length-map above taken) ∙ inputs-all (merged (joined setting)) (input_of encoded setting) (is_marked encoded) (length above) (map group_table (taken new)) enough)
          (raises.1 all (subst (All (IsTableOf all)) (sym staged-leaves) tables)));
    }

    pub drafts-some : length (map group_table (taken new)) ≤ 2 ^ length above → RaisesSome joined setting encoded (map group_table (taken new)) (length above) u v x y → TreeSome joined setting encoded shift news u v x y old
    drafts-some enough some_raised all tables =
        subst (λ (us : List (List (List ℕ × V))). MergedSome (distinct_keys all) u v x y (tree_inputs encoded joined setting us)) staged-leaves
        (subst (λ (ds : List (List ℕ)). MergedSome (distinct_keys all) u v x y ds)
        (inputs-all (merged (joined setting)) (input_of encoded setting) (is_marked encoded) (length above) (map group_table (taken new)) enough)
        (some_raised all (subst (All (IsTableOf all)) (sym staged-leaves) tables)))
