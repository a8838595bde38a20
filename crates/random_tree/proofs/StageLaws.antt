-- What an advance drafts on the lowest level, and what the levels above it must be over.
use Rattle.std.proofs.Common.{◌≡◌, ℕ, ◌+◌, ◌-◌, ◌^◌, ◌<◌, ◌≤◌, List, [], ◌∷◌, length, map, get_or, sym, ap, subst, ◌∙◌, arith}
use Rattle.std.specs.List.{All}
use Rattle.std.proofs.lemmas.List.{length-map}
use Rattle.std.proofs.lemmas.List.Elements.{All-head, All-tail, All-nil, All-cons}
use Rattle.sheets.specs.Sheets.{SheetOf}
use Rattle.sheets.specs.United.{tables_of}
use Rattle.record_text.specs.declared.kind.Kind.TheVariants.{Document}
use Rattle.record_text.specs.declared.shift.Shift.{Shift}
use Rattle.record_text.specs.declared.shift.Shift.TheVariants.{Splice}
use Rattle.record_text.specs.Shifts.{FitsShift}
use Rattle.job_laws.specs.declared.meter.Counts.{Counts}
use Rattle.pin_table.specs.Views.{CallerView}
use Rattle.tree_laws.specs.Trees.{IsLeaf}
use Rattle.random_tree.specs.declared.group.Group.{Group}
use Rattle.random_tree.specs.declared.level.Level.{Level}
use Rattle.random_tree.specs.Groups.{alone, groups_of}
use Rattle.random_tree.specs.Inputs.{is_marked}
use Rattle.random_tree.specs.Levels.{AreSet, AreLevels, IsTree, bottom, now_of, taken, group_table, count_after}
use Rattle.random_tree.specs.Steps.{StagesLeaves, AddsLevels, leaves_then}
use Rattle.random_tree.proofs.LevelLaws.{over-set}
use Rattle.random_tree.proofs.DraftLaws.{tree-levels, bottom-is, added-tree, staged-leaves, staged-level}
use Rattle.random_tree.proofs.SeenLaws.{splice-fits}

-- Sheets of the setting are leaves of it.
pub sound-at : {V : Type 0} (good : ℕ → V → Type 0) (setting : ℕ) (ss : List (SheetOf V)) → All (λ s. s.setting ≡ setting) ss → All (λ s. IsLeaf good s.setting s) ss → All (IsLeaf good setting) ss
sound-at good setting [] set sound = All-nil (IsLeaf good setting)
sound-at good setting (s ∷ ss) set sound =
    All-cons (IsLeaf good setting) s ss (subst (λ (n : ℕ). IsLeaf good n s) (All-head (λ (t : SheetOf _). t.setting ≡ setting) s ss set) (All-head (λ (t : SheetOf _). IsLeaf good t.setting t) s ss sound))
    (sound-at good setting ss (All-tail (λ (t : SheetOf _). t.setting ≡ setting) s ss set) (All-tail (λ (t : SheetOf _). IsLeaf good t.setting t) s ss sound))

-- What a splice of a document is.
pub splice-within : (most old count news first gone came : ℕ) (shift : Shift) → shift ≡ Splice first gone came → FitsShift Document most old count news shift → first + gone ≤ count
splice-within most old count news first gone came shift is fits = (subst (FitsShift Document most old count news) is fits).0

-- The lowest level is the first one.
pub bottom-at : {J V M : Type 0} (levels : List (Level J V M)) (l : Level J V M) → 0 < length levels → l ≡ get_or levels 0 l → bottom (map now_of levels) ≡ now_of l
bottom-at [] l some is = absurd (omega (arith, some))
bottom-at (k ∷ levels) l some is = sym (ap now_of is)

module _ {J V M : Type 0} (joined : ℕ → V → V → V) (setting : ℕ) (encoded : V → List ℕ) where
  -- The splice is within the lowest level.
  pub stage-within : (shift : Shift) (first gone came : ℕ) → shift ≡ Splice first gone came → (news : ℕ) (old : List (Level J V M)) (l : Level J V M) (levels : List (Level J V M)) → 0 < length old → AddsLevels old (l ∷ levels) → FitsShift Document 0 0 (length (bottom (map now_of old))) news shift → first + gone ≤ length (now_of l)
  stage-within shift first gone came is news old l levels some adds fits =
      let within = splice-within 0 0 (length (bottom (map now_of old))) news first gone came shift is fits in
      let same = ap length (bottom-is joined setting encoded old l levels some adds) in
      omega (arith, within, same)

  module _ (shift : Shift) (first gone came : ℕ) (is : shift ≡ Splice first gone came) (news : List (SheetOf V)) (u v : CallerView) (x y : Counts) (old : List (Level J V M)) (l new : Level J V M) (levels above : List (Level J V M))
      (some : 0 < length old) (adds : AddsLevels old (l ∷ levels)) (same : now_of new ≡ now_of l) (staged : StagesLeaves first gone news new)
      (set : All (λ s. s.setting ≡ setting) news) (tree : IsTree joined setting encoded (map group_table (bottom (map now_of old))) (map now_of old))
      (fits : FitsShift Document 0 0 (length (bottom (map now_of old))) (length news) shift) where
    -- The leaves after the shift.
    pub staged-count : length (taken new) ≡ (length (bottom (map now_of old)) + length news) - gone
    staged-count =
        let a = length-map (taken new) group_table in
        let b = ap length (staged-leaves joined setting encoded shift first gone came is news u v x y old l new levels above some adds same staged) in
        let e = after in
        let c = (splice-fits 0 0 (length (bottom (map now_of old))) (length news) shift (tables_of news) (map group_table (bottom (map now_of old))) (let n = length-map (bottom (map now_of old)) group_table in sym n) (let n = length-map news (λ (s : SheetOf V). s.entries) in sym n) fits).1 in
        omega (arith, a, b, c, e)
      where
        after : count_after shift (length (bottom (map now_of old))) ≡ (length (bottom (map now_of old)) + length news) - gone
        after = ap (λ (s : Shift). count_after s (length (bottom (map now_of old)))) is ∙ (let n = (subst (FitsShift Document 0 0 (length (bottom (map now_of old))) (length news)) is fits).1 in ap (λ (k : ℕ). (length (bottom (map now_of old)) + k) - gone) n)

    pub staged-enough : (leaves : ℕ) → leaves ≡ (length (bottom (map now_of old)) - gone) + length news → leaves ≤ 2 ^ length levels → length (taken new) ≤ 2 ^ length levels
    staged-enough leaves count enough =
        let n = staged-count in
        let within = splice-within 0 0 (length (bottom (map now_of old))) (length news) first gone came shift is fits in
        omega (arith, n, count, enough, within)

    pub staged-set : AreSet setting (taken new)
    staged-set =
        over-set joined setting encoded (map alone (leaves_then shift news old)) (taken new) (staged-level joined setting encoded shift first gone came is news u v x y old l new levels above some adds same staged set tree)

    pub staged-above : AreLevels joined setting encoded (groups_of (is_marked encoded) (map group_table (now_of new))) (map now_of levels)
    staged-above =
        subst (λ (gs : List (Group J V M)). AreLevels joined setting encoded (groups_of (is_marked encoded) (map group_table gs)) (map now_of levels)) (sym same)
        (tree-levels joined setting encoded (map group_table (bottom (map now_of old))) (now_of l) (map now_of levels) (added-tree joined setting encoded old (l ∷ levels) (map group_table (bottom (map now_of old))) adds tree)).2
