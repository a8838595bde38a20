-- The merge of the tables of leaves is the table of all their records.
use Rattle.std.proofs.Common.{◌≡◌, ℕ, List, [], ◌∷◌, ◌++◌, map, All, refl, ap, sym, subst, ◌∙◌, append_assoc, append-nil}
use Rattle.std.specs.Prelude.{Option, Some, None, IsTrue, fold}
use Rattle.std.proofs.lemmas.List.Elements.{All-head, All-tail}
use Rattle.std.proofs.lemmas.List.Concat.{flat_map-append}
use Rattle.definitions.specs.Tables.{HasGoodValues, table_of, merged}
use Rattle.definitions.specs.Answer.{pairs_of}
use Rattle.definitions.proofs.AnswerLaws.{good-append}
use Rattle.job_laws.specs.Meanings.{Meaning, AllAccepted}
use Rattle.sheets.specs.Sheets.{SheetOf}
use Rattle.sheets.specs.Parts.{in_part, PartsAppend}
use Rattle.marker_chunker.specs.Cuts.{joined}
use Rattle.window_manager.specs.Windows.{Leaf}
use Rattle.tree_laws.specs.Trees.{TreeView, merged_all, IsRoot}
use Rattle.run_engine.specs.Engines.{part_table, IsAnswer}

module _ {V : Type 0} (m : Meaning V) (good : V → Type 0) (emits_good : (r : List ℕ) → IsTrue (m.accepts r) → HasGoodValues good (m.emits r)) where
  good-pairs : (text : Leaf) → AllAccepted m text → HasGoodValues good (pairs_of m.emits text)
  good-pairs [] all = tt
  good-pairs (r ∷ rs) all = good-append good (m.emits r) (pairs_of m.emits rs) (emits_good r (All-head (λ r. IsTrue (m.accepts r)) r rs all)) (good-pairs rs (All-tail (λ r. IsTrue (m.accepts r)) r rs all))

  module _ (append : PartsAppend good m.joined) (parts part : ℕ) where
    -- The table of texts after one another.
    table-more : (text more : Leaf) → HasGoodValues good (pairs_of m.emits text) → HasGoodValues good (pairs_of m.emits more) → part_table m parts part (text ++ more) ≡ merged m.joined (part_table m parts part text) (part_table m parts part more)
    table-more text more g h = ap (λ ps. in_part parts part (table_of m.joined ps)) (flat_map-append m.emits text more) ∙ append parts part (pairs_of m.emits text) (pairs_of m.emits more) g h

    good-more : (text more : Leaf) → HasGoodValues good (pairs_of m.emits text) → HasGoodValues good (pairs_of m.emits more) → HasGoodValues good (pairs_of m.emits (text ++ more))
    good-more text more g h = subst (HasGoodValues good) (sym (flat_map-append m.emits text more)) (good-append good (pairs_of m.emits text) (pairs_of m.emits more) g h)

    fold-tables : (text : Leaf) (leaves : List Leaf) → HasGoodValues good (pairs_of m.emits text) → All (AllAccepted m) leaves
        → fold (merged m.joined) (part_table m parts part text) (map (part_table m parts part) leaves) ≡ part_table m parts part (text ++ joined leaves)
    fold-tables text [] g all = ap (part_table m parts part) (sym (append-nil text))
    fold-tables text (leaf ∷ leaves) g all =
        let h = good-pairs leaf (All-head (AllAccepted m) leaf leaves all) in
        ap (λ t. fold (merged m.joined) t (map (part_table m parts part) leaves)) (sym (table-more text leaf g h))
        ∙ fold-tables (text ++ leaf) leaves (good-more text leaf g h) (All-tail (AllAccepted m) leaf leaves all)
        ∙ ap (part_table m parts part) (append_assoc text leaf (joined leaves))

    -- A root over the tables of the leaves is the answer for the part.
    pub root-answers : (joins : ℕ → V → V → V) (setting : ℕ) → joins setting ≡ m.joined → (leaves : List Leaf) → All (AllAccepted m) leaves
        → (t : TreeView V) → t.setting ≡ setting → t.leaves.tables ≡ map (part_table m parts part) leaves → (root : Option (SheetOf V)) → IsRoot joins t root → IsAnswer m setting parts part leaves root
    root-answers joins setting of [] all t setting_is tables None is = refl
    root-answers joins setting of (leaf ∷ leaves) all t setting_is tables None is = let none : map (part_table m parts part) (leaf ∷ leaves) ≡ [] = sym tables ∙ is in absurd cc
    root-answers joins setting of [] all t setting_is tables (Some s) is = let none : None ≡ Some s.entries = ap (merged_all (joins t.setting)) (sym tables) ∙ is.1 in absurd cc
    root-answers joins setting of (leaf ∷ leaves) all t setting_is tables (Some s) is =
        let h = good-pairs leaf (All-head (AllAccepted m) leaf leaves all) in
        let whole = fold-tables leaf leaves h (All-tail (AllAccepted m) leaf leaves all) in
        let joins_are : joins t.setting ≡ m.joined = ap joins setting_is ∙ of in
        let same : merged_all (joins t.setting) t.leaves.tables ≡ merged_all m.joined (map (part_table m parts part) (leaf ∷ leaves)) = ap (λ f. merged_all f t.leaves.tables) joins_are ∙ ap (merged_all m.joined) tables in
        let entries : Some s.entries ≡ Some (part_table m parts part (leaf ++ joined leaves)) = sym is.1 ∙ same ∙ ap (λ e. Some e) whole in
        ((λ none. absurd cc), sheet-is s.setting setting s.entries (part_table m parts part (leaf ++ joined leaves)) (is.0 ∙ setting_is) cc)
      where
        sheet-is : (m n : ℕ) (e f : List (List ℕ × V)) → m ≡ n → e ≡ f → ◌≡◌ {A = SheetOf V} (record { setting = m; entries = e }) (record { setting = n; entries = f })
        sheet-is m n e f p q = let first : ◌≡◌ {A = SheetOf V} (record { setting = m; entries = e }) (record { setting = n; entries = e }) = ap (λ (k : ℕ). record { setting = k; entries = e }) p in let second : ◌≡◌ {A = SheetOf V} (record { setting = n; entries = e }) (record { setting = n; entries = f }) = ap (λ (x : List (List ℕ × V)). record { setting = n; entries = x }) q in first ∙ second
