use Rattle.std.proofs.Common.{◌≡◌, ℕ, ◌++◌, ◌<◌, ◌≤◌, length, vec_len}
use Rattle.pin_table.specs.Covers.{Covered}
use Rattle.tree_laws.specs.Pairs.{pair_digest}
use Rattle.folding_tree.specs.Levels.{no_row}
use Rattle.folding_tree.specs.Folding.{HaveRoom, rows_of, aheads_of, rows_after, levels_pins, drafts_pins}
use Rattle.tree_laws.specs.Trades.{Trades}
use Rattle.folding_tree.proofs.settling.settle.Given as goal

abbrev pub invariant-above : goal.invariant-above
invariant-above g l = record {
  of : l.caller.locks ≡ l.memo.locks;
  count : length l.levels.items ≡ length l.initial.levels.items;
  below : (i : ℕ) → i < length l.drafts.items → rows_of l.levels.items i ≡ rows_of l.initial.levels.items i;
  cleared : (i : ℕ) → length l.drafts.items ≤ i → i < l.k → rows_of l.levels.items i ≡ no_row;
  room : HaveRoom l.levels.items l.drafts.items;
  covered : Covered l.caller (levels_pins (pair_digest g.J.Job.encoded) l.levels.items ++ drafts_pins (pair_digest g.J.Job.encoded) l.drafts.items);
  trades : Trades l.initial.caller (levels_pins (pair_digest g.J.Job.encoded) l.initial.levels.items ++ drafts_pins (pair_digest g.J.Job.encoded) l.drafts.items) l.caller (levels_pins (pair_digest g.J.Job.encoded) l.levels.items ++ drafts_pins (pair_digest g.J.Job.encoded) l.drafts.items);
}

abbrev pub invariant-drafts : goal.invariant-drafts
invariant-drafts g l = record {
  of : l.caller.locks ≡ l.memo.locks;
  count : length l.levels.items ≡ length l.fn.levels.items;
  short : length l.drafts.items ≤ length l.fn.drafts.items;
  same : (i : ℕ) → i < length l.drafts.items → aheads_of l.drafts.items i ≡ aheads_of l.fn.drafts.items i;
  below : (i : ℕ) → i < length l.drafts.items → rows_of l.levels.items i ≡ rows_of l.fn.levels.items i;
  above : (i : ℕ) → length l.drafts.items ≤ i → rows_of l.levels.items i ≡ rows_after l.fn.levels.items l.fn.drafts.items i;
  room : HaveRoom l.levels.items l.drafts.items;
  covered : Covered l.caller (levels_pins (pair_digest g.J.Job.encoded) l.levels.items ++ drafts_pins (pair_digest g.J.Job.encoded) l.drafts.items);
  trades : Trades l.fn.caller (levels_pins (pair_digest g.J.Job.encoded) l.fn.levels.items ++ drafts_pins (pair_digest g.J.Job.encoded) l.fn.drafts.items) l.caller (levels_pins (pair_digest g.J.Job.encoded) l.levels.items ++ drafts_pins (pair_digest g.J.Job.encoded) l.drafts.items);
}

abbrev pub decreases-drafts : goal.decreases-drafts
decreases-drafts g l = vec_len l.drafts
