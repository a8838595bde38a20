-- The second phase, for each part.
use Rattle.std.proofs.Common.{◌≡◌, ℕ, ◌*◌, Bool, true, false, true≢false, List, [], ◌∷◌, map, All, refl, ap, sym, subst, ◌∙◌, arith}
use Rattle.std.specs.Prelude.{Option, None}
use Rattle.std.proofs.lemmas.List.Elements.{All-map, All-weaker, All-head, All-tail}
use Rattle.atomic_table.specs.Seated.{TableId}
use Rattle.job_laws.specs.declared.job.Job as Jobs
use Rattle.job_laws.specs.declared.meter.Counts.{Counts}
use Rattle.job_laws.specs.Counted.{RoseBy, RoseWithin}
use Rattle.job_laws.specs.Meanings.{meaning_at}
use Rattle.job_laws.proofs.CountLaws.{rose_none, rose_more}
use Rattle.pin_table.proofs.Covering.{balanced-same}
use Rattle.record_text.specs.Shifts.{FitsShift, shifted}
use Rattle.record_text.specs.declared.kind.Kind.{Kind}
use Rattle.record_text.specs.declared.shift.Shift.{Shift}
use Rattle.sheets.specs.Sheets.{SheetOf}
use Rattle.sheets.specs.United.{tables_of}
use Rattle.pin_table.specs.Views.{CallerView}
use Rattle.pin_table.specs.Covers.{PinName}
use Rattle.pin_table.specs.OwnEvents.{Met}
use Rattle.map_tasks.specs.Inputs.{InputView}
use Rattle.map_tasks.specs.Leaves.{sheet_for}
use Rattle.tree_laws.specs.Trees.{Shape, TreeView, Leaves, IsDrafted, reverted, distinct_keys}
use Rattle.run_engine.specs.Inputs.{texts_of, AreMappedSo}
use Rattle.run_engine.specs.PartTasks.{IsReadyPart, IsAdvancedPart}
use Rattle.run_engine.specs.Engines.{part_table}
use Rattle.run_engine.specs.Phases.{IsTriedPart}

-- Reverting a tree without a draft changes nothing.
pub undrafted : {V : Type 0} (v : TreeView V) → v.draft ≡ None → reverted v ≡ v
undrafted {V} v none = sym (ap (λ (d : Option (Leaves V)). record v { draft = d }) none)

-- Reverting a tree with a draft gives what it was before.
pub drafted-kept : {V : Type 0} (shaped : Shape → Shift → Shape) (shift : Shift) (news : List (SheetOf V)) (old new : TreeView V) → old.draft ≡ None → IsDrafted shaped shift news old new → reverted new ≡ old
drafted-kept shaped shift news old new none drafted = ap reverted drafted.is ∙ undrafted old none

module _ {J V M : Type 0} (job : Jobs.Ghosts J V M) (setting parts part : ℕ) where
  -- The tables of the sheets of a part are the part's tables of the texts.
  pub sheets-tables : (inputs : List InputView) → AreMappedSo parts setting inputs → tables_of (map (λ i. sheet_for job i part) inputs) ≡ map (part_table (meaning_at job setting) parts part) (texts_of inputs)
  sheets-tables [] mapped = refl
  sheets-tables (i ∷ inputs) mapped =
      let h = All-head (λ (j : InputView). (j.parts ≡ parts) × (j.setting ≡ setting)) i inputs mapped in
      let rest = sheets-tables inputs (All-tail (λ (j : InputView). (j.parts ≡ parts) × (j.setting ≡ setting)) i inputs mapped) in
      let one : (sheet_for job i part).entries ≡ part_table (meaning_at job setting) parts part i.text = ap (λ (n : ℕ). part_table (meaning_at job i.setting) n part i.text) h.0 ∙ ap (λ (s : ℕ). part_table (meaning_at job s) parts part i.text) h.1 in
      ap (λ (t : List (List ℕ × V)). t ∷ tables_of (map (λ i. sheet_for job i part) inputs)) one ∙ ap (λ (ts : List (List (List ℕ × V))). part_table (meaning_at job setting) parts part i.text ∷ ts) rest

  pub sheets-settings : (inputs : List InputView) (at : ℕ) → at ≡ setting → AreMappedSo parts setting inputs → All (λ (s : SheetOf V). s.setting ≡ at) (map (λ i. sheet_for job i part) inputs)
  sheets-settings inputs at is mapped = All-map (λ (s : SheetOf V). s.setting ≡ at) (λ i. sheet_for job i part) inputs (All-weaker (λ (j : InputView). (j.parts ≡ parts) × (j.setting ≡ setting)) (λ (j : InputView). (sheet_for job j part).setting ≡ at) (λ j h. h.1 ∙ sym is) inputs mapped)

module _ {V T : Type 0} (view : T → TreeView V) (pins : T → List PinName) (bound : T → Shift → ℕ) (tight : T → Shift → List (List (List ℕ × V)) → ℕ) (shaped : Shape → Shift → Shape) where
  -- A part that was done counted by the tables of its leaves.
  pub part-counted : (shift : Shift) (news : List (SheetOf V)) (tables : List (List (List ℕ × V))) (tree tree_now : T) (caller caller_now : CallerView) (a b : Counts) (failed : Bool) → tables_of news ≡ tables → IsAdvancedPart view pins bound tight shaped shift news tree caller tree_now caller_now a b failed
      → RoseBy 0 (bound tree shift) (bound tree shift * distinct_keys (shifted shift tables (view tree).leaves.tables)) a b
  part-counted shift news tables tree tree_now caller caller_now a b failed is w = subst (λ (ts : List (List (List ℕ × V))). RoseBy 0 (bound tree shift) (bound tree shift * distinct_keys (shifted shift ts (view tree).leaves.tables)) a b) is w.counted

  pub part-tight : (shift : Shift) (news : List (SheetOf V)) (tables : List (List (List ℕ × V))) (tree tree_now : T) (caller caller_now : CallerView) (a b : Counts) (failed : Bool) → tables_of news ≡ tables → IsAdvancedPart view pins bound tight shaped shift news tree caller tree_now caller_now a b failed
      → (view tree).leaves.loose ≡ false → (Met caller caller_now → ⊥) → RoseWithin (tight tree shift tables) a.merges b.merges
  part-tight shift news tables tree tree_now caller caller_now a b failed is w firm unmet = subst (λ (ts : List (List (List ℕ × V))). RoseWithin (tight tree shift ts) a.merges b.merges) is (w.tightly firm unmet)

-- A shift that fits, restated with equal numbers.
pub fits-moved : (k l : Kind) (p q f g c d n o : ℕ) (shift : Shift) → k ≡ l → p ≡ q → f ≡ g → c ≡ d → n ≡ o → FitsShift k p f c n shift → FitsShift l q g d o shift
fits-moved k l p q f g c d n o shift ek ep ef ec en fits =
    subst (λ (x : ℕ). FitsShift l q g d x shift) en
    (subst (λ (x : ℕ). FitsShift l q g x n shift) ec
    (subst (λ (x : ℕ). FitsShift l q x c n shift) ef
    (subst (λ (x : ℕ). FitsShift l x f c n shift) ep
    (subst (λ (x : Kind). FitsShift x p f c n shift) ek fits))))

module _ {V T : Type 0} (view : T → TreeView V) (pins : T → List PinName) (bound : T → Shift → ℕ) (tight : T → Shift → List (List (List ℕ × V)) → ℕ) (shaped : Shape → Shift → Shape) where
  -- Less is known of a part that may have failed.
  pub part-failed : (shift : Shift) (news : List (SheetOf V)) (tree tree_now : T) (caller caller_now : CallerView) (a b : Counts) (failed : Bool) → IsAdvancedPart view pins bound tight shaped shift news tree caller tree_now caller_now a b failed → IsAdvancedPart view pins bound tight shaped shift news tree caller tree_now caller_now a b true
  part-failed shift news tree tree_now caller caller_now a b failed w = record { drafted = λ is. absurd (true≢false is); kept = w.kept; covered = w.covered; balanced = w.balanced; loose = w.loose; counted = w.counted; tightly = w.tightly }

  -- A part whose task was not done.
  pub part-idle : (kind : Kind) (setting : ℕ) (locks : List TableId) (shift : Shift) (news : List (SheetOf V)) (tree : T) (caller : CallerView) (a : Counts) → IsReadyPart view pins kind setting locks shift tree caller news → IsAdvancedPart view pins bound tight shaped shift news tree caller tree caller a a true
  part-idle kind setting locks shift news tree caller a ready = record {
    drafted = λ is. absurd (true≢false is);
    kept = undrafted (view tree) ready.no_draft;
    covered = ready.covered;
    balanced = balanced-same caller (pins tree);
    loose = λ draft is. absurd (let none = sym ready.no_draft ∙ is in cc);
    counted = rose_more 0 0 0 0 (bound tree shift) (bound tree shift * distinct_keys (shifted shift (tables_of news) (view tree).leaves.tables)) a a (omega arith) (omega arith) (omega arith) (rose_none a);
    tightly = λ firm unmet. (omega arith, omega arith);
  }

  pub part-tried : (shift : Shift) (news : List (SheetOf V)) (tree tree_now : T) (caller caller_now : CallerView) (a b : Counts) (failed : Bool) → IsAdvancedPart view pins bound tight shaped shift news tree caller tree_now caller_now a b failed → IsTriedPart view pins tree caller tree_now caller_now
  part-tried shift news tree tree_now caller caller_now a b failed w = record { kept = w.kept; covered = w.covered; balanced = w.balanced; loose = w.loose }
