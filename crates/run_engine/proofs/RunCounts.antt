-- What the meters of the parts counted in a run, with the old and the new trees and callers.
use Rattle.std.proofs.Common.{◌≡◌, ℕ, zero, suc, ◌*◌, ◌<◌, ◌≤◌, ◌⊎◌, true, false, List, [], ◌∷◌, length, map, ap, sym, subst, ◌∙◌, arith}
use Rattle.std.specs.Prelude.{slice_index_or}
use Rattle.std.proofs.lemmas.List.{length-map}
use Rattle.definitions.specs.Tables.{keys_of}
use Rattle.definitions.specs.Answer.{pairs_of}
use Rattle.job_laws.specs.declared.meter.Counts.{Counts}
use Rattle.job_laws.specs.Counted.{RoseBy, RoseWithin}
use Rattle.job_laws.specs.Meanings.{Meaning}
use Rattle.record_text.specs.Shifts.{shifted}
use Rattle.record_text.specs.declared.shift.Shift.{Shift}
use Rattle.sheets.specs.Parts.{sum_below, PartsShare}
use Rattle.pin_table.specs.Views.{CallerView}
use Rattle.pin_table.specs.Covers.{IsLater}
use Rattle.pin_table.specs.OwnEvents.{Met}
use Rattle.pin_table.proofs.OwnEvents.{any-met-later}
use Rattle.window_manager.specs.Windows.{Leaf, present}
use Rattle.window_manager.specs.Views.{WindowView, shift_of}
use Rattle.window_manager.specs.Since.{fresh_leaves}
use Rattle.tree_laws.specs.Trees.{Shape, TreeView, bound_of, distinct_keys}
use Rattle.run_engine.specs.Engines.{SeatView, part_table}
use Rattle.run_engine.specs.Runs.{PartWorked, PartsWorked, part_bound, greatest}
use Rattle.run_engine.proofs.Leads.{map-shifted}
use Rattle.run_engine.proofs.Sums.{sum-rose, below-scaled, keys-shared}

greatest-least : (ns : List ℕ) (k : ℕ) → slice_index_or ns k 0 ≤ greatest ns
greatest-least [] k = omega arith
greatest-least (n ∷ ns) zero = omega arith
greatest-least (n ∷ ns) (suc k) = let r = greatest-least ns k in omega (arith, r)

module _ {V M T : Type 0} (counts : M → Counts) (m : Meaning V) (bound : ℕ → Shape → ℕ → Shift → ℕ) (tight : T → Shift → List (List (List ℕ × V)) → ℕ) (view : T → TreeView V) where
  -- One part: what it counted before its draft was settled or dropped.
  pub part-worked : (parts places : ℕ) (w : WindowView) (leaves : List Leaf) (part : ℕ) (a b : M) (old new : SeatView T) (caller_mid : CallerView) → w.window.leaves ≡ shifted (shift_of w) (fresh_leaves w) leaves → (view old.tree).places ≡ places → (view old.tree).leaves.tables ≡ map (part_table m parts part) leaves
      → RoseBy 0 (bound_of view bound old.tree (shift_of w)) (bound_of view bound old.tree (shift_of w) * distinct_keys (shifted (shift_of w) (map (part_table m parts part) (fresh_leaves w)) (view old.tree).leaves.tables)) (counts a) (counts b)
      → ((view old.tree).leaves.loose ≡ false → (Met old.caller caller_mid → ⊥) → RoseWithin (tight old.tree (shift_of w) (map (part_table m parts part) (fresh_leaves w))) (counts a).merges (counts b).merges)
      → IsLater caller_mid new.caller → ((view new.tree).leaves.loose ≡ true → ((view old.tree).leaves.loose ≡ true) ⊎ Met old.caller new.caller) → PartWorked counts m bound tight view parts places (length leaves) w part a b old new
  part-worked parts places w leaves part a b old new caller_mid leads places_are tables counted tightly later loose =
      let same : shifted (shift_of w) (map (part_table m parts part) (fresh_leaves w)) (view old.tree).leaves.tables ≡ map (part_table m parts part) w.window.leaves =
      ap (shifted (shift_of w) (map (part_table m parts part) (fresh_leaves w))) tables ∙ sym (map-shifted (part_table m parts part) (shift_of w) (fresh_leaves w) leaves) ∙ ap (map (part_table m parts part)) (sym leads) in
      let most : bound_of view bound old.tree (shift_of w) ≡ part_bound counts m bound tight view places (length leaves) w old =
      ap (λ (n : ℕ). bound n (view old.tree).leaves.shape (length (view old.tree).leaves.tables) (shift_of w)) places_are
      ∙ ap (λ (n : ℕ). bound places (view old.tree).leaves.shape n (shift_of w)) (ap length tables ∙ length-map leaves (part_table m parts part)) in
      record {
        counted = subst (λ (n : ℕ). RoseBy 0 n (n * distinct_keys (map (part_table m parts part) w.window.leaves)) (counts a) (counts b)) most
            (subst (λ (ts : List (List (List ℕ × V))). RoseBy 0 (bound_of view bound old.tree (shift_of w)) (bound_of view bound old.tree (shift_of w) * distinct_keys ts) (counts a) (counts b)) same counted);
        tightly = λ firm unmet. tightly firm (λ met. unmet (any-met-later old.caller caller_mid new.caller later met));
        loose = loose;
      }

  -- All parts together.
  pub parts-worked : (parts places leaves : ℕ) (w : WindowView) (old new : List M) (seats seats_now : List (SeatView T)) → PartsShare m.joined → 1 ≤ parts → parts ≤ length old → length seats ≡ parts → length new ≡ length old
      → ((p : ℕ) (d e : M) (s t : SeatView T) → p < parts → PartWorked counts m bound tight view parts places leaves w p (slice_index_or old p d) (slice_index_or new p e) (slice_index_or seats p s) (slice_index_or seats_now p t))
      → ((p : ℕ) (d : M) → parts ≤ p → slice_index_or new p d ≡ slice_index_or old p d)
      → ((p : ℕ) → p < length seats → (s : SeatView T) × ((d : SeatView T) → slice_index_or seats p d ≡ s)) → ((p : ℕ) → p < length seats → (t : SeatView T) × ((d : SeatView T) → slice_index_or seats_now p d ≡ t))
      → ((p : ℕ) (s : SeatView T) → p < length seats → slice_index_or (map (part_bound counts m bound tight view places leaves w) seats) p 0 ≡ part_bound counts m bound tight view places leaves w (slice_index_or seats p s))
      → PartsWorked counts m bound tight view parts places leaves w old new seats seats_now
  parts-worked parts places leaves w old new seats seats_now share some few count_is meters each others there there_now bounds =
      let b : ℕ → ℕ = λ p. slice_index_or (map (part_bound counts m bound tight view places leaves w) seats) p 0 in
      let d : ℕ → ℕ = λ p. distinct_keys (map (part_table m parts p) w.window.leaves) in
      let most : ℕ = greatest (map (part_bound counts m bound tight view places leaves w) seats) in
      let r = sum-rose (λ n. (counts n).joins) (λ p. b p * d p) parts old new few meters (λ p x y lt. one p x y lt) others in
      let s = below-scaled b d most parts (λ p lt. greatest-least (map (part_bound counts m bound tight view places leaves w) seats) p) in
      let k = keys-shared m share parts w.window.leaves some in
      let l : most * sum_below d parts ≡ most * length (keys_of (pairs_of m.emits (present w.window))) = ap (λ (n : ℕ). most * n) k in
      record { each = each; others = others; joins = (r.0, omega (arith, r, s, l)) }
    where
      one : (p : ℕ) (x y : M) → p < parts → RoseWithin (slice_index_or (map (part_bound counts m bound tight view places leaves w) seats) p 0 * distinct_keys (map (part_table m parts p) w.window.leaves)) (counts (slice_index_or old p x)).joins (counts (slice_index_or new p y)).joins
      one p x y lt =
          let s = there p (subst (λ (n : ℕ). p < n) (sym count_is) lt) in
          let t = there_now p (subst (λ (n : ℕ). p < n) (sym count_is) lt) in
          let c = (each p x y s.0 t.0 lt).counted.joins in
          subst (λ (n : ℕ). RoseWithin (n * distinct_keys (map (part_table m parts p) w.window.leaves)) (counts (slice_index_or old p x)).joins (counts (slice_index_or new p y)).joins) (sym (bounds p s.0 (subst (λ (n : ℕ). p < n) (sym count_is) lt))) c
