-- The steps of a run, for each lane and each part.
use Rattle.std.proofs.Common.{◌≡◌, ℕ, ◌+◌, ◌≤◌, ◌⊎◌, inl, inr, ⊎_elim, true, List, length, ap, sym, subst, ◌∙◌, arith}
use Rattle.std.specs.Prelude.{Option, Some}
use Rattle.std.specs.List.{sum_by}
use Rattle.definitions.specs.Answer.{pairs_of}
use Rattle.job_laws.specs.Counted.{RoseWithin}
use Rattle.job_laws.specs.Meanings.{Meaning}
use Rattle.record_text.specs.Shifts.{shifted, first_after}
use Rattle.record_text.specs.declared.shift.Shift.{Shift}
use Rattle.pin_table.specs.Views.{CallerView}
use Rattle.pin_table.specs.Covers.{PinName, Covered, Backed, Balanced, IsLater}
use Rattle.pin_table.specs.OwnEvents.{Met}
use Rattle.pin_table.proofs.Covering.{backed-then}
use Rattle.pin_table.proofs.OwnEvents.{any-met-later}
use Rattle.window_manager.specs.Windows.{Leaf}
use Rattle.map_tasks.specs.Texts.{Settles, Reverts, used_of, came_of, gone_of}
use Rattle.map_tasks.specs.Lanes.{LaneView}
use Rattle.tree_laws.specs.Trees.{Shape, TreeView, Leaves, LooseOnlyIf, settled, settled_by, reverted}
use Rattle.run_engine.specs.NewTexts.{times, is_among, new_texts, new_records}
use Rattle.run_engine.specs.Engines.{IsLaneOf, IsTreeOf}
use Rattle.run_engine.specs.Finishing.{IsFinished}
use Rattle.run_engine.specs.Phases.{IsTriedLane, IsBroughtLane, IsTriedPart, IsShiftedPart}
use Rattle.run_engine.proofs.TextCounts.{weight-within, length-joined, length-pairs}
use Rattle.run_engine.proofs.Dealt.{lane-led}
use Rattle.run_engine.proofs.Leads.{tree-leads}

module _ (parts setting : ℕ) (leaves : List Leaf) (k : ℕ) where
  -- A lane that tried, brought and settled is over the new leaves.
  pub lane-settled : (fresh gone now : List Leaf) (old mid new : LaneView) → IsLaneOf parts setting leaves k old → IsTriedLane parts setting old mid → IsBroughtLane fresh gone k mid → Settles mid.texts new.texts → IsFinished mid new
      → ((t : Leaf) → times t now + times t gone ≡ times t leaves + times t fresh) → IsLaneOf parts setting now k new
  lane-settled fresh gone now old mid new holds tried brought settles finished balance = record {
    used = λ t. lane-led k t leaves fresh gone now (used_of t mid.texts) (came_of t mid.texts) (gone_of t mid.texts) (used_of t new.texts) (tried.used t ∙ holds.used t) (brought.came t) (brought.went t) (balance t) (settles.used t);
    quiet = settles.quiet;
    some = settles.some;
    mapped = finished.mapped parts setting tried.mapped;
    once = finished.once;
    spare = finished.spare;
  }

  -- A lane that tried and reverted is over the old leaves.
  pub lane-reverted : (old mid new : LaneView) → IsLaneOf parts setting leaves k old → IsTriedLane parts setting old mid → Reverts mid.texts new.texts → IsFinished mid new → IsLaneOf parts setting leaves k new
  lane-reverted old mid new holds tried reverts finished = record {
    used = λ t. reverts.used t ∙ tried.used t ∙ holds.used t;
    quiet = reverts.quiet;
    some = reverts.some;
    mapped = finished.mapped parts setting tried.mapped;
    once = finished.once;
    spare = finished.spare;
  }

-- What it held is undone.
pub lane-undone : (parts setting : ℕ) (old mid new : LaneView) → IsTriedLane parts setting old mid → Reverts mid.texts new.texts → Reverts old.texts new.texts
lane-undone parts setting old mid new tried reverts = record { used = λ t. reverts.used t ∙ tried.used t; quiet = reverts.quiet; some = reverts.some }

-- A tree that settles has its draft as its leaves.
settled-leaves : {V : Type 0} (v : TreeView V) (d : Leaves V) → v.draft ≡ Some d → (settled v).leaves ≡ d
settled-leaves {V} v d is = ap (λ (o : Option (Leaves V)). (settled_by v o).leaves) is

module _ {V T : Type 0} (m : Meaning V) (setting parts : ℕ) (view : T → TreeView V) (pins : T → List PinName) where
  -- A tree that took the shift and settled is over the new leaves.
  pub part-settled : (places first : ℕ) (leaves fresh : List Leaf) (part : ℕ) (shaped : Shape → Shift → Shape) (shift : Shift) (old mid new : T) → IsTreeOf m setting parts places first leaves part (view old) → IsShiftedPart view m parts shaped shift fresh part old mid → view new ≡ settled (view mid)
      → IsTreeOf m setting parts places (first_after shift first) (shifted shift fresh leaves) part (view new)
  part-settled places first leaves fresh part shaped shift old mid new stands took is =
      subst (IsTreeOf m setting parts places (first_after shift first) (shifted shift fresh leaves) part) (sym is)
      (tree-leads m setting parts places first leaves part shift fresh shaped took.news took.tables (view old) (view mid) stands took.drafted)

  -- Its shape is the one that the shift makes of the old shape.
  pub part-shaped : (fresh : List Leaf) (part : ℕ) (shaped : Shape → Shift → Shape) (shift : Shift) (old mid new : T) → IsShiftedPart view m parts shaped shift fresh part old mid → view new ≡ settled (view mid) → (view new).leaves.shape ≡ shaped (view old).leaves.shape shift
  part-shaped fresh part shaped shift old mid new took is =
      let d = took.drafted in
      ap (λ (t : TreeView V). t.leaves.shape) is ∙ ap (λ (l : Leaves V). l.shape) (settled-leaves (view mid) d.draft (ap (λ (t : TreeView V). t.draft) d.is)) ∙ d.of.shape

  -- A tree that reverted is unchanged.
  pub part-reverted : (old mid new : T) (caller caller_mid : CallerView) → IsTriedPart view pins old caller mid caller_mid → view new ≡ reverted (view mid) → view new ≡ view old
  part-reverted old mid new caller caller_mid tried is = is ∙ tried.kept

  -- Its caller holds its pins.
  pub seat-backed : (old mid new : T) (caller caller_mid caller_now : CallerView) → Backed caller (pins old) → IsTriedPart view pins old caller mid caller_mid → Covered caller_now (pins new) → Balanced caller_mid (pins mid) caller_now (pins new) → Backed caller_now (pins new)
  seat-backed old mid new caller caller_mid caller_now backed tried covered balanced =
      backed-then caller_mid caller_now (pins mid) (pins new) (backed-then caller caller_mid (pins old) (pins mid) backed tried.balanced tried.covered.given) balanced covered.given

  -- A tree without a draft that took a shift is loose only if it may be.
  pub loose-settled : (old mid new : T) (caller caller_mid caller_now : CallerView) (draft : Leaves V) → LooseOnlyIf (Met caller caller_mid) (view old) (view mid) → (view mid).draft ≡ Some draft → view new ≡ settled (view mid) → IsLater caller_mid caller_now
      → (view new).leaves.loose ≡ true → ((view old).leaves.loose ≡ true) ⊎ Met caller caller_now
  loose-settled old mid new caller caller_mid caller_now draft loose drafted is later now =
      let settles : (view new).leaves ≡ draft = ap (λ (t : TreeView V). t.leaves) is ∙ settled-leaves (view mid) draft drafted in
      ⊎_elim (λ (h : (view old).leaves.loose ≡ true). inl h) (λ (h : Met caller caller_mid). inr (any-met-later caller caller_mid caller_now later h)) (loose draft drafted (sym (ap (λ (l : Leaves V). l.loose) settles) ∙ now))

-- The new records among the leaves that came are among those of all leaves.
pub new-within : (w : Leaf → ℕ) (old fresh now : List Leaf) → ((t : Leaf) → is_among fresh t ≡ true → is_among now t ≡ true) → sum_by w (new_texts (is_among old) fresh) ≤ sum_by w (new_texts (is_among old) now)
new-within w old fresh now sub = weight-within w (is_among old) fresh now sub

pub maps-within : (old fresh now : List Leaf) (a b : ℕ) → ((t : Leaf) → is_among fresh t ≡ true → is_among now t ≡ true) → RoseWithin (sum_by length (new_texts (is_among old) fresh)) a b → RoseWithin (length (new_records old now)) a b
maps-within old fresh now a b sub rose =
    let n = new-within length old fresh now sub in
    let l = length-joined (new_texts (is_among old) now) in
    (rose.0, omega (arith, rose, n, l))

pub joins-within : {V : Type 0} (emits : List ℕ → List (List ℕ × V)) (old fresh now : List Leaf) (a b : ℕ) → ((t : Leaf) → is_among fresh t ≡ true → is_among now t ≡ true) → RoseWithin (sum_by (λ t. length (pairs_of emits t)) (new_texts (is_among old) fresh)) a b → RoseWithin (length (pairs_of emits (new_records old now))) a b
joins-within emits old fresh now a b sub rose =
    let n = new-within (λ t. length (pairs_of emits t)) old fresh now sub in
    let l = length-pairs emits (new_texts (is_among old) now) in
    (rose.0, omega (arith, rose, n, l))
