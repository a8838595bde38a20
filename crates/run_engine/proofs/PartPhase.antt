-- The second phase, for all parts.
use Rattle.std.proofs.Common.{◌≡◌, ℕ, ◌<◌, ◌≤◌, Bool, true, false, List, [], ◌++◌, length, map, All, refl, ap, sym, subst, ◌∙◌, arith}
use Rattle.std.specs.Prelude.{slice_index_or}
use Rattle.std.proofs.lemmas.List.{length-map, get_or_default}
use Rattle.atomic_table.specs.Seated.{TableId}
use Rattle.job_laws.specs.declared.job.Job as Jobs
use Rattle.job_laws.specs.declared.meter.Counts.{Counts}
use Rattle.job_laws.specs.Meanings.{meaning_at}
use Rattle.pin_table.proofs.Covering.{balanced-same}
use Rattle.record_text.specs.Shifts.{FitsShift}
use Rattle.record_text.specs.declared.kind.Kind.{Kind}
use Rattle.record_text.specs.declared.shift.Shift.{Shift}
use Rattle.sheets.specs.Sheets.{SheetOf}
use Rattle.sheets.specs.United.{tables_of}
use Rattle.pin_table.specs.Views.{CallerView}
use Rattle.pin_table.specs.Covers.{PinName}
use Rattle.map_tasks.specs.Inputs.{InputView}
use Rattle.map_tasks.specs.Leaves.{sheet_for}
use Rattle.tree_laws.specs.Trees.{Shape, TreeView}
use Rattle.run_engine.specs.declared.part_seat.PartSeat.{PartSeat}
use Rattle.run_engine.specs.InPlace.{EachPair}
use Rattle.run_engine.specs.Inputs.{texts_of, AreMappedSo}
use Rattle.run_engine.specs.Rows.{OthersStay}
use Rattle.run_engine.specs.PartTasks.{IsReadyPart, IsAdvancedPart}
use Rattle.run_engine.specs.Engines.{part_table}
use Rattle.run_engine.specs.Phases.{IsPartReady, IsTriedPart, IsShiftedPart, PartsCounted}
use Rattle.run_engine.proofs.InPlaceSteps.{at-place}
use Rattle.run_engine.proofs.PartSteps.{sheets-tables, sheets-settings, part-counted, part-tight, part-tried, part-idle, part-failed, undrafted}

module _ {J T V M : Type 0} (job : Jobs.Ghosts J V M) (setting parts : ℕ) (view : T → TreeView V) (pins : T → List PinName) (bound : T → Shift → ℕ) (tight : T → Shift → List (List (List ℕ × V)) → ℕ) (shaped : Shape → Shift → Shape) (shift : Shift) (inputs : List InputView) (mapped : AreMappedSo parts setting inputs) (old mid : List (PartSeat J T V M))
    (handed : EachPair (λ p s t. (t.tree ≡ s.tree) × (t.caller ≡ s.caller) × (t.fresh.items ≡ s.fresh.items ++ map (λ i. sheet_for job i p) inputs)) old mid) where
  -- The sheets that a part was handed.
  news-are : (p : ℕ) (d : PartSeat J T V M) → p < length old → (slice_index_or old p d).fresh.items ≡ [] → (slice_index_or mid p d).fresh.items ≡ map (λ i. sheet_for job i p) inputs
  news-are p d lt none = (handed.each p d d lt).2 ∙ ap (λ (l : List (SheetOf V)). l ++ map (λ i. sheet_for job i p) inputs) none

  -- Each part may be done.
  pub parts-ready : (kind : Kind) (locks : List TableId) → All (IsPartReady view pins setting kind locks shift (length inputs)) old → All (λ s. IsReadyPart view pins kind setting locks shift s.tree s.caller s.fresh.items) mid
  parts-ready kind locks ready p d lt =
      let n = handed.count in
      let lo : p < length old = omega (arith, lt, n) in
      let r = ready p d lo in
      let h = handed.each p d d lo in
      let news = news-are p d lo r.no_fresh in
      let count = ap length news ∙ length-map inputs (λ (i : InputView). sheet_for job i p) in
      subst (λ (t : T). IsReadyPart view pins kind setting locks shift t (slice_index_or mid p d).caller (slice_index_or mid p d).fresh.items) (sym h.0)
      (subst (λ (c : CallerView). IsReadyPart view pins kind setting locks shift (slice_index_or old p d).tree c (slice_index_or mid p d).fresh.items) (sym h.1) (record {
        of = r.of;
        covered = r.covered;
        no_draft = r.no_draft;
        fits = subst (λ (m : ℕ). FitsShift kind (view (slice_index_or old p d).tree).places (view (slice_index_or old p d).tree).leaves.first (length (view (slice_index_or old p d).tree).leaves.tables) m shift) (sym count) r.fits;
        job = sym r.setting_is;
        settings = subst (All (λ (s : SheetOf V). s.setting ≡ (view (slice_index_or old p d).tree).setting)) (sym news) (sheets-settings job setting parts p inputs (view (slice_index_or old p d).tree).setting r.setting_is mapped);
      }))

  module _ (counts : M → Counts) (new : List (PartSeat J T V M)) (before now : List M) (failed : Bool)
      (worked : EachPair (λ p s t. (d e : M) → IsAdvancedPart view pins bound tight shaped shift s.fresh.items s.tree s.caller t.tree t.caller (counts (slice_index_or before p d)) (counts (slice_index_or now p e)) failed) mid new) where
    one : (p : ℕ) (d e : PartSeat J T V M) (x y : M) → p < length old → IsAdvancedPart view pins bound tight shaped shift (slice_index_or mid p d).fresh.items (slice_index_or old p d).tree (slice_index_or old p d).caller (slice_index_or new p e).tree (slice_index_or new p e).caller (counts (slice_index_or before p x)) (counts (slice_index_or now p y)) failed
    one p d e x y lt =
        let n = handed.count in
        let h = handed.each p d d lt in
        subst (λ (t : T). IsAdvancedPart view pins bound tight shaped shift (slice_index_or mid p d).fresh.items t (slice_index_or old p d).caller (slice_index_or new p e).tree (slice_index_or new p e).caller (counts (slice_index_or before p x)) (counts (slice_index_or now p y)) failed) h.0
        (subst (λ (c : CallerView). IsAdvancedPart view pins bound tight shaped shift (slice_index_or mid p d).fresh.items (slice_index_or mid p d).tree c (slice_index_or new p e).tree (slice_index_or new p e).caller (counts (slice_index_or before p x)) (counts (slice_index_or now p y)) failed) h.1
        (worked.each p d e (omega (arith, lt, n)) x y))

    pub parts-tried : length old ≤ length before → EachPair (λ p s t. IsTriedPart view pins s.tree s.caller t.tree t.caller) old new
    parts-tried meters =
        let n = handed.count in
        let o = worked.count in
        record {
          count = omega (arith, n, o);
          each = λ p d e lt.
              let x = at-place before p (omega (arith, lt, meters)) in
              part-tried view pins bound tight shaped shift (slice_index_or mid p d).fresh.items (slice_index_or old p d).tree (slice_index_or new p e).tree (slice_index_or old p d).caller (slice_index_or new p e).caller (counts (slice_index_or before p x.0)) (counts (slice_index_or now p x.0)) failed (one p d e x.0 x.0 lt);
        }

    pub parts-shifted : length old ≤ length before → failed ≡ false → ((p : ℕ) (d : PartSeat J T V M) → p < length old → (slice_index_or old p d).fresh.items ≡ []) → EachPair (λ p s t. IsShiftedPart view (meaning_at job setting) parts shaped shift (texts_of inputs) p s.tree t.tree) old new
    parts-shifted meters is none =
        let n = handed.count in
        let o = worked.count in
        record {
          count = omega (arith, n, o);
          each = λ p d e lt.
              let x = at-place before p (omega (arith, lt, meters)) in
              record {
                news = (slice_index_or mid p d).fresh.items;
                tables = ap (tables_of {V = V}) (news-are p d lt (none p d lt)) ∙ sheets-tables job setting parts p inputs mapped;
                drafted = (one p d e x.0 x.0 lt).drafted is;
              };
        }

    pub parts-counted : OthersStay parts before now → length old ≡ parts → ((p : ℕ) (d : PartSeat J T V M) → p < length old → (slice_index_or old p d).fresh.items ≡ []) → PartsCounted view counts (meaning_at job setting) parts bound tight shift (texts_of inputs) old new before now
    parts-counted others count none = record {
      others_stay = others;
      each = λ p s t d e lt.
          let lo : p < length old = omega (arith, lt, count) in
          let tables = ap (tables_of {V = V}) (news-are p s lo (none p s lo)) ∙ sheets-tables job setting parts p inputs mapped in
          let w = one p s t d e lo in
          record {
            counted = part-counted view pins bound tight shaped shift (slice_index_or mid p s).fresh.items (map (part_table (meaning_at job setting) parts p) (texts_of inputs)) (slice_index_or old p s).tree (slice_index_or new p t).tree (slice_index_or old p s).caller (slice_index_or new p t).caller (counts (slice_index_or before p d)) (counts (slice_index_or now p e)) failed tables w;
            tightly = part-tight view pins bound tight shaped shift (slice_index_or mid p s).fresh.items (map (part_table (meaning_at job setting) parts p) (texts_of inputs)) (slice_index_or old p s).tree (slice_index_or new p t).tree (slice_index_or old p s).caller (slice_index_or new p t).caller (counts (slice_index_or before p d)) (counts (slice_index_or now p e)) failed tables w;
          };
    }

-- Parts whose task was not done.
pub parts-idle : {J T V M : Type 0} (view : T → TreeView V) (pins : T → List PinName) (bound : T → Shift → ℕ) (tight : T → Shift → List (List (List ℕ × V)) → ℕ) (shaped : Shape → Shift → Shape) (kind : Kind) (setting : ℕ) (locks : List TableId) (shift : Shift) (counts : M → Counts) (seats : List (PartSeat J T V M)) (before : List M)
    → All (λ s. IsReadyPart view pins kind setting locks shift s.tree s.caller s.fresh.items) seats → length seats ≤ length before
    → EachPair (λ p s t. (d e : M) → IsAdvancedPart view pins bound tight shaped shift s.fresh.items s.tree s.caller t.tree t.caller (counts (slice_index_or before p d)) (counts (slice_index_or before p e)) true) seats seats
parts-idle {J} {T} {V} {M} view pins bound tight shaped kind setting locks shift counts seats before ready meters = record { count = refl; each = λ p d e lt x y. at p d e lt x y }
  where
    at : (p : ℕ) (d e : PartSeat J T V M) → p < length seats → (x y : M) → IsAdvancedPart view pins bound tight shaped shift (slice_index_or seats p d).fresh.items (slice_index_or seats p d).tree (slice_index_or seats p d).caller (slice_index_or seats p e).tree (slice_index_or seats p e).caller (counts (slice_index_or before p x)) (counts (slice_index_or before p y)) true
    at p d e lt x y =
        let s = slice_index_or seats p d in
        subst (λ (t : PartSeat J T V M). IsAdvancedPart view pins bound tight shaped shift s.fresh.items s.tree s.caller t.tree t.caller (counts (slice_index_or before p x)) (counts (slice_index_or before p y)) true) (get_or_default seats p d e lt)
        (subst (λ (n : M). IsAdvancedPart view pins bound tight shaped shift s.fresh.items s.tree s.caller s.tree s.caller (counts (slice_index_or before p x)) (counts n) true) (get_or_default before p x y (omega (arith, lt, meters)))
        (part-idle view pins bound tight shaped kind setting locks shift s.fresh.items s.tree s.caller (counts (slice_index_or before p x)) (ready p d lt)))

-- What the parts' tasks leave, by what each task leaves.
module _ {J T V M : Type 0} (view : T → TreeView V) (pins : T → List PinName) (bound : T → Shift → ℕ) (tight : T → Shift → List (List (List ℕ × V)) → ℕ) (shaped : Shape → Shift → Shape) (shift : Shift) (counts : M → Counts) (seats now : List (PartSeat J T V M)) (before after : List M) where
  module _ (count : length now ≡ length seats)
      (each : (p : ℕ) (d f : PartSeat J T V M) (e g : M) → p < length seats → IsAdvancedPart view pins bound tight shaped shift (slice_index_or seats p d).fresh.items (slice_index_or seats p d).tree (slice_index_or seats p d).caller (slice_index_or now p f).tree (slice_index_or now p f).caller (counts (slice_index_or before p e)) (counts (slice_index_or after p g)) (slice_index_or now p f).failed) where
    -- None failed.
    pub parts-well : All (λ s. s.failed ≡ false) now → EachPair (λ p s t. (d e : M) → IsAdvancedPart view pins bound tight shaped shift s.fresh.items s.tree s.caller t.tree t.caller (counts (slice_index_or before p d)) (counts (slice_index_or after p e)) false) seats now
    parts-well well = record {
      count = count;
      each = λ p d f lt e g. subst (λ (b : Bool). IsAdvancedPart view pins bound tight shaped shift (slice_index_or seats p d).fresh.items (slice_index_or seats p d).tree (slice_index_or seats p d).caller (slice_index_or now p f).tree (slice_index_or now p f).caller (counts (slice_index_or before p e)) (counts (slice_index_or after p g)) b) (well p f (omega (arith, lt, count))) (each p d f e g lt);
    }

    -- Some may have failed.
    pub parts-unwell : EachPair (λ p s t. (d e : M) → IsAdvancedPart view pins bound tight shaped shift s.fresh.items s.tree s.caller t.tree t.caller (counts (slice_index_or before p d)) (counts (slice_index_or after p e)) true) seats now
    parts-unwell = record {
      count = count;
      each = λ p d f lt e g. part-failed view pins bound tight shaped shift (slice_index_or seats p d).fresh.items (slice_index_or seats p d).tree (slice_index_or now p f).tree (slice_index_or seats p d).caller (slice_index_or now p f).caller (counts (slice_index_or before p e)) (counts (slice_index_or after p g)) (slice_index_or now p f).failed (each p d f e g lt);
    }

  -- None was done.
  pub parts-unworked : (kind : Kind) (setting : ℕ) (locks : List TableId) → now ≡ seats → after ≡ before → All (λ s. IsReadyPart view pins kind setting locks shift s.tree s.caller s.fresh.items) seats → length seats ≤ length before → EachPair (λ p s t. (d e : M) → IsAdvancedPart view pins bound tight shaped shift s.fresh.items s.tree s.caller t.tree t.caller (counts (slice_index_or before p d)) (counts (slice_index_or after p e)) true) seats now
  parts-unworked kind setting locks same still ready meters =
      subst (λ (l : List (PartSeat J T V M)). EachPair (λ p s t. (d e : M) → IsAdvancedPart view pins bound tight shaped shift s.fresh.items s.tree s.caller t.tree t.caller (counts (slice_index_or before p d)) (counts (slice_index_or after p e)) true) seats l) (sym same)
      (subst (λ (a : List M). EachPair (λ p s t. (d e : M) → IsAdvancedPart view pins bound tight shaped shift s.fresh.items s.tree s.caller t.tree t.caller (counts (slice_index_or before p d)) (counts (slice_index_or a p e)) true) seats seats) (sym still)
      (parts-idle view pins bound tight shaped kind setting locks shift counts seats before ready meters))

-- Parts that at most got some sheets count as tried.
pub parts-handed : {J T V M : Type 0} (view : T → TreeView V) (pins : T → List PinName) (setting : ℕ) (kind : Kind) (locks : List TableId) (shift : Shift) (news : ℕ) (old mid : List (PartSeat J T V M)) → All (IsPartReady view pins setting kind locks shift news) old → EachPair (λ p s t. (t.tree ≡ s.tree) × (t.caller ≡ s.caller) × Unit {0}) old mid
    → EachPair (λ p s t. IsTriedPart view pins s.tree s.caller t.tree t.caller) old mid
parts-handed {J} {T} {V} {M} view pins setting kind locks shift news old mid ready handed = record { count = handed.count; each = λ p d e lt. at p d e lt }
  where
    at : (p : ℕ) (d e : PartSeat J T V M) → p < length old → IsTriedPart view pins (slice_index_or old p d).tree (slice_index_or old p d).caller (slice_index_or mid p e).tree (slice_index_or mid p e).caller
    at p d e lt =
        let s = slice_index_or old p d in
        let r = ready p d lt in
        let h = handed.each p d e lt in
        subst (λ (t : T). IsTriedPart view pins s.tree s.caller t (slice_index_or mid p e).caller) (sym h.0)
        (subst (λ (c : CallerView). IsTriedPart view pins s.tree s.caller s.tree c) (sym h.1) (record {
          kept = undrafted (view s.tree) r.no_draft;
          covered = r.covered;
          balanced = balanced-same s.caller (pins s.tree);
          loose = λ draft is. absurd (let none = sym r.no_draft ∙ is in cc);
        }))
