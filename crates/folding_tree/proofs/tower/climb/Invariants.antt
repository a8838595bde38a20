use Rattle.std.proofs.Common.{◌≡◌, ℕ, suc, ◌+◌, ◌-◌, ◌*◌, ◌<◌, ◌≤◌, true, List, length}
use Rattle.job_laws.specs.Counted.{RoseBy}
use Rattle.pin_table.specs.OwnEvents.{Met}
use Rattle.tree_laws.specs.Pairs.{pair_digest}
use Rattle.tree_laws.specs.Trees.{IsLeaf, IsWithin, distinct_keys}
use Rattle.folding_tree.specs.Levels.{IsOver, IsAligned, IsBegun, EachSheet, ahead_loose, beyond}
use Rattle.folding_tree.specs.Folding.{rows_of, aheads_of, rows_after, drafts_pins}
use Rattle.tree_laws.specs.Trades.{Trades}
use Rattle.folding_tree.proofs.tower.climb.Given as goal

abbrev pub invariant-levels : goal.invariant-levels
invariant-levels g l = record {
  of : l.caller.locks ≡ l.memo.locks;
  count : length l.drafts.items ≡ l.k + 1;
  first : aheads_of l.drafts.items 0 ≡ aheads_of l.initial.drafts.items 0;
  aligned : (b : IsBegun g.J.Job.joined l.height (rows_of l.levels) (aheads_of l.initial.drafts.items 0)) → (i : ℕ) → i ≤ l.k → IsAligned b.folded i (rows_of l.levels i) (aheads_of l.drafts.items i);
  grows : (aheads_of l.initial.drafts.items 0).mid < (aheads_of l.initial.drafts.items 0).high → (i : ℕ) → i ≤ l.k → (aheads_of l.drafts.items i).mid < (aheads_of l.drafts.items i).high;
  over : (i : ℕ) → i < l.k → IsOver g.J.Job.joined (rows_after l.levels l.drafts.items i) (rows_after l.levels l.drafts.items (suc i));
  leaves : EachSheet (IsLeaf g.J.Job.good (g.J.Job.setting l.job)) (rows_after l.levels l.drafts.items l.k);
  within : (ts : List (List (List ℕ × g.row.J-Val.Denot))) → EachSheet (λ s. IsWithin s.entries ts) (rows_after l.levels l.initial.drafts.items 0) → EachSheet (λ s. IsWithin s.entries ts) (rows_after l.levels l.drafts.items l.k);
  few : beyond (aheads_of l.drafts.items l.k).low (aheads_of l.drafts.items l.k).places ≤ length (aheads_of l.initial.drafts.items 0).places;
  loose : (i : ℕ) → ahead_loose (aheads_of l.drafts.items i) ≡ true → Met l.initial.caller l.caller;
  trades : Trades l.initial.caller (drafts_pins (pair_digest g.J.Job.encoded) l.initial.drafts.items) l.caller (drafts_pins (pair_digest g.J.Job.encoded) l.drafts.items);
  counted : (ts : List (List (List ℕ × g.row.J-Val.Denot))) → EachSheet (λ s. IsWithin s.entries ts) (rows_after l.levels l.initial.drafts.items 0) → (n : ℕ)
      × (n + ((aheads_of l.drafts.items l.k).high - (aheads_of l.drafts.items l.k).mid) ≤ (aheads_of l.initial.drafts.items 0).high - (aheads_of l.initial.drafts.items 0).mid + (2 + length (aheads_of l.initial.drafts.items 0).places) * l.k)
      × RoseBy 0 n (n * distinct_keys ts) (g.J.Meter.Meter.counts l.initial.m) (g.J.Meter.Meter.counts l.m);
}
