-- What the meters of the parts counted in a run, over the old and the new seats.
use Rattle.std.proofs.Common.{◌≡◌, ℕ, zero, suc, ◌*◌, ◌<◌, ◌≤◌, ◌⊎◌, inl, inr, ⊎_elim, true, List, length, map, refl, ap, sym, subst, ◌∙◌, arith}
use Rattle.std.specs.Prelude.{slice_index_or}
use Rattle.std.proofs.lemmas.List.{length-map, get_or_default}
use Rattle.atomic_table.specs.Seated.{TableId}
use Rattle.job_laws.specs.declared.meter.Counts.{Counts}
use Rattle.job_laws.specs.Meanings.{Meaning}
use Rattle.job_laws.specs.Rows.{PartRose}
use Rattle.job_laws.proofs.CountLaws.{part_rose, rose_none, rose_more}
use Rattle.record_text.specs.Shifts.{shifted}
use Rattle.record_text.specs.declared.shift.Shift.{Shift}
use Rattle.sheets.specs.Parts.{PartsShare}
use Rattle.pin_table.specs.Covers.{PinName, IsLater}
use Rattle.pin_table.specs.OwnEvents.{Met}
use Rattle.window_manager.specs.Windows.{Leaf}
use Rattle.window_manager.specs.Views.{WindowView, shift_of}
use Rattle.window_manager.specs.Since.{IsSince, fresh_leaves}
use Rattle.tree_laws.specs.Trees.{Shape, TreeView, bound_of, distinct_keys}
use Rattle.run_engine.specs.declared.part_seat.PartSeat.{PartSeat}
use Rattle.run_engine.specs.InPlace.{EachAt}
use Rattle.run_engine.specs.Engines.{SeatView, IsPartSeat, part_table, seat_view}
use Rattle.run_engine.specs.Runs.{PartWorked, PartsWorked, part_bound}
use Rattle.run_engine.specs.Phases.{PartCounted, PartsCounted}
use Rattle.run_engine.proofs.InPlaceSteps.{at-place, mapped-place}
use Rattle.run_engine.proofs.RunCounts.{part-worked, parts-worked}

-- Each meter of a part counted merges and joins, and no map.
pub parts-rose : {J T V M : Type 0} (view : T → TreeView V) (counts : M → Counts) (m : Meaning V) (parts : ℕ) (bound : T → Shift → ℕ) (tight : T → Shift → List (List (List ℕ × V)) → ℕ) (shift : Shift) (fresh : List Leaf) (seats seats_now : List (PartSeat J T V M)) (old new : List M) → parts ≤ length seats → length seats_now ≡ length seats → PartsCounted view counts m parts bound tight shift fresh seats seats_now old new
    → (i : ℕ) (d : M) → PartRose (counts (slice_index_or old i d)) (counts (slice_index_or new i d))
parts-rose {J} {T} {V} {M} view counts m parts bound tight shift fresh seats seats_now old new le same counted i d = ⊎_elim rises stays (side i parts)
  where
    side : (k n : ℕ) → (k < n) ⊎ (n ≤ k)
    side k zero = inr (omega arith)
    side zero (suc n) = inl (omega arith)
    side (suc k) (suc n) = ⊎_elim (λ (l : k < n). inl (omega (arith, l))) (λ (r : n ≤ k). inr (omega (arith, r))) (side k n)

    rises : i < parts → PartRose (counts (slice_index_or old i d)) (counts (slice_index_or new i d))
    rises lt =
        let x = at-place seats i (omega (arith, lt, le)) in
        let y = at-place seats_now i (omega (arith, lt, le, same)) in
        part_rose (bound (slice_index_or seats i x.0).tree shift) (bound (slice_index_or seats i x.0).tree shift * distinct_keys (shifted shift (map (part_table m parts i) fresh) (view (slice_index_or seats i x.0).tree).leaves.tables)) (counts (slice_index_or old i d)) (counts (slice_index_or new i d)) (counted.each i x.0 y.0 d d lt).counted

    stays : parts ≤ i → PartRose (counts (slice_index_or old i d)) (counts (slice_index_or new i d))
    stays r = subst (λ (n : M). PartRose (counts (slice_index_or old i d)) (counts n)) (sym (counted.others_stay.same i d r)) (refl, omega arith, omega arith)

module _ {J T V M : Type 0} (counts : M → Counts) (m : Meaning V) (bound : ℕ → Shape → ℕ → Shift → ℕ) (tight : T → Shift → List (List (List ℕ × V)) → ℕ) (view : T → TreeView V) (pins : T → List PinName) (most : T → ℕ) (setting parts places : ℕ) (locks : List TableId) where
  pub parts-clause : (w : WindowView) (first : ℕ) (leaves : List Leaf) (seats mid now : List (PartSeat J T V M)) (before after : List M) → IsSince first leaves w → EachAt (IsPartSeat m view pins most setting parts places first locks leaves) seats → length seats ≡ parts → length mid ≡ length seats → length now ≡ length seats
      → PartsCounted view counts m parts (bound_of view bound) tight (shift_of w) (fresh_leaves w) seats mid before after → ((p : ℕ) (d e : PartSeat J T V M) → p < parts → IsLater (slice_index_or mid p d).caller (slice_index_or now p e).caller)
      → ((p : ℕ) (d e : PartSeat J T V M) → p < parts → (view (slice_index_or now p e).tree).leaves.loose ≡ true → ((view (slice_index_or seats p d).tree).leaves.loose ≡ true) ⊎ Met (slice_index_or seats p d).caller (slice_index_or now p e).caller)
      → PartsShare m.joined → 1 ≤ parts → parts ≤ length before → PartsWorked counts m bound tight view parts places (length leaves) w before after (map seat_view seats) (map seat_view now)
  parts-clause w first leaves seats mid now before after since stand count mid_count now_count counted later loose share some few =
      parts-worked counts m bound tight view parts places (length leaves) w before after (map seat_view seats) (map seat_view now) share some few (length-map seats seat_view ∙ count) counted.others_stay.count each counted.others_stay.same
      (λ p lt. place seats p (within p lt)) (λ p lt. place now p (let n = within p lt in omega (arith, n, now_count))) bounds
    where
      within : (p : ℕ) → p < length (map seat_view seats) → p < length seats
      within p lt = let n = length-map seats seat_view in omega (arith, lt, n)

      place : (xs : List (PartSeat J T V M)) (p : ℕ) → p < length xs → (s : SeatView T) × ((d : SeatView T) → slice_index_or (map seat_view xs) p d ≡ s)
      place xs p lt = let x = at-place xs p lt in (seat_view x.0, λ d. mapped-place seat_view xs p x.0 lt x.1 d)

      bounds : (p : ℕ) (s : SeatView T) → p < length (map seat_view seats) → slice_index_or (map (part_bound counts m bound tight view places (length leaves) w) (map seat_view seats)) p 0 ≡ part_bound counts m bound tight view places (length leaves) w (slice_index_or (map seat_view seats) p s)
      bounds p s lt =
          let y = place seats p (within p lt) in
          mapped-place (part_bound counts m bound tight view places (length leaves) w) (map seat_view seats) p y.0 lt y.1 0 ∙ ap (part_bound counts m bound tight view places (length leaves) w) (sym (y.1 s))

      each : (p : ℕ) (d e : M) (s t : SeatView T) → p < parts → PartWorked counts m bound tight view parts places (length leaves) w p (slice_index_or before p d) (slice_index_or after p e) (slice_index_or (map seat_view seats) p s) (slice_index_or (map seat_view now) p t)
      each p d e s t lt =
          let x = at-place seats p (omega (arith, lt, count)) in
          let y = at-place now p (omega (arith, lt, count, now_count)) in
          let z = at-place mid p (omega (arith, lt, count, mid_count)) in
          let rx = mapped-place seat_view seats p x.0 (omega (arith, lt, count)) x.1 s in
          let ry = mapped-place seat_view now p y.0 (omega (arith, lt, count, now_count)) y.1 t in
          let c = counted.each p x.0 z.0 d e lt in
          let stands = (stand p x.0 (omega (arith, lt, count))).stands in
          let here = part-worked counts m bound tight view parts places w leaves p (slice_index_or before p d) (slice_index_or after p e) (seat_view (slice_index_or seats p x.0)) (seat_view (slice_index_or now p y.0)) (slice_index_or mid p z.0).caller
          since.leads stands.places_are stands.tables c.counted c.tightly (later p z.0 y.0 lt) (loose p x.0 y.0 lt) in
          subst (λ (a : SeatView T). PartWorked counts m bound tight view parts places (length leaves) w p (slice_index_or before p d) (slice_index_or after p e) a (slice_index_or (map seat_view now) p t)) (ap seat_view (x.1 x.0) ∙ sym rx)
          (subst (λ (b : SeatView T). PartWorked counts m bound tight view parts places (length leaves) w p (slice_index_or before p d) (slice_index_or after p e) (seat_view (slice_index_or seats p x.0)) b) (ap seat_view (y.1 y.0) ∙ sym ry) here)

-- When no part's task was done.
pub parts-uncounted : {J T V M : Type 0} (counts : M → Counts) (m : Meaning V) (bound : T → Shift → ℕ) (tight : T → Shift → List (List (List ℕ × V)) → ℕ) (view : T → TreeView V) (parts : ℕ) (shift : Shift) (fresh : List Leaf) (seats now : List (PartSeat J T V M)) (before : List M) → parts ≤ length before → PartsCounted view counts m parts bound tight shift fresh seats now before before
parts-uncounted {J} {T} {V} {M} counts m bound tight view parts shift fresh seats now before few = record {
  others_stay = record { count = refl; same = λ k d le. refl };
  each = λ p s t d e lt. subst (λ (n : M). PartCounted view counts m parts bound tight shift fresh p (slice_index_or seats p s).tree (slice_index_or seats p s).caller (slice_index_or now p t).caller (slice_index_or before p d) n) (get_or_default before p d e (omega (arith, lt, few))) (idle p (slice_index_or seats p s) (slice_index_or now p t) (slice_index_or before p d));
}
  where
    idle : (p : ℕ) (s t : PartSeat J T V M) (a : M) → PartCounted view counts m parts bound tight shift fresh p s.tree s.caller t.caller a a
    idle p s t a = record {
      counted = rose_more 0 0 0 0 (bound s.tree shift) (bound s.tree shift * distinct_keys (shifted shift (map (part_table m parts p) fresh) (view s.tree).leaves.tables)) (counts a) (counts a) (omega arith) (omega arith) (omega arith) (rose_none (counts a));
      tightly = λ firm unmet. (omega arith, omega arith);
    }
