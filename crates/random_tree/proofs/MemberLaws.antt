-- Members of a level, as a group is grown over them.
use Rattle.std.proofs.Common.{◌≡◌, ℕ, ◌+◌, ◌-◌, ◌<◌, ◌≤◌, false, List, [], ◌∷◌, length, map, drop, Some, sym, ap, ◌∙◌, arith}
use Rattle.std.specs.List.{slice_get}
use Rattle.std.proofs.lemmas.List.{drop-drop, length-map, length-drop}
use Rattle.job_laws.specs.declared.meter.Counts.{Counts}
use Rattle.sheets.specs.Sheets.{SheetOf}
use Rattle.pin_table.specs.Views.{CallerView}
use Rattle.random_tree.specs.declared.group.Group.{Group}
use Rattle.random_tree.specs.Levels.{group_sheet, group_table, AreSet}
use Rattle.random_tree.proofs.LevelLaws.{member-set, member-drop}
use Rattle.random_tree.proofs.ReadLaws.{get-below}
use Rattle.random_tree.proofs.GrowLaws.{IsGrowing, grow-start}

module _ {J V M : Type 0} where
  -- The next member of a group that begins at `from`, by the number of its members.
  pub next-member : (gs : List (Group J V M)) (from n i : ℕ) (b : SheetOf V) → i ≡ from + n → slice_get (map group_sheet gs) i ≡ Some b → drop n (drop from (map group_table gs)) ≡ b.entries ∷ drop (n + 1) (drop from (map group_table gs))
  next-member gs from n i b at is =
      let more : i + 1 ≡ from + (n + 1) = omega (arith, at) in
      drop-drop n from (map group_table gs)
      ∙ (ap (λ (k : ℕ). drop k (map group_table gs)) (sym at)
      ∙ (member-drop gs i b is
      ∙ ap (λ (ts : List (List (List ℕ × V))). b.entries ∷ ts) (ap (λ (k : ℕ). drop k (map group_table gs)) more ∙ sym (drop-drop (n + 1) from (map group_table gs)))))

  pub member-below : (gs : List (Group J V M)) (i : ℕ) (b : SheetOf V) → slice_get (map group_sheet gs) i ≡ Some b → i < length gs
  member-below gs i b is = let a = get-below (map group_sheet gs) i b is in let n = length-map gs group_sheet in omega (arith, a, n)

  -- How many members are left from one on.
  pub left-from : (gs : List (Group J V M)) (from n : ℕ) → length gs - from ≤ n → length (drop from (map group_table gs)) ≤ n
  left-from gs from n le = let a = length-drop from (map group_table gs) in let b = length-map gs group_table in omega (arith, le, a, b)

  module _ (joined : ℕ → V → V → V) (setting : ℕ) (encoded : V → List ℕ) where
    -- A group of the member at `from` alone.
    pub grow-enter : (gs : List (Group J V M)) (from : ℕ) (g : Group J V M) (v : CallerView) (x : Counts) → AreSet setting gs → slice_get (map group_sheet gs) from ≡ Some g.first → g.holds.items ≡ [] → g.ended ≡ false → IsGrowing joined setting encoded (drop from (map group_table gs)) v v x x g
    grow-enter gs from g v x set first none opened = grow-start joined setting encoded (drop from (map group_table gs)) v x g.first.entries (drop (from + 1) (map group_table gs)) g (member-drop gs from g.first first) (member-set setting gs from g.first set first) none opened
