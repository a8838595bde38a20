use Rattle.std.proofs.Common.{◌≡◌, vec_len}
use Rattle.pin_table.specs.Covers.{Covered}
use Rattle.tree_laws.specs.Pairs.{pair_digest}
use Rattle.folding_tree.specs.Folding.{drafts_pins}
use Rattle.tree_laws.specs.Trades.{Trades}
use Rattle.folding_tree.proofs.letting.let_drafts_go.Given as goal

abbrev pub invariant-drafts : goal.invariant-drafts
invariant-drafts g l = record {
  of : l.caller.locks ≡ l.memo.locks;
  covered : Covered l.caller (drafts_pins (pair_digest g.J.Job.encoded) l.drafts.items);
  trades : Trades l.initial.caller (drafts_pins (pair_digest g.J.Job.encoded) l.initial.drafts.items) l.caller (drafts_pins (pair_digest g.J.Job.encoded) l.drafts.items);
}

abbrev pub decreases-drafts : goal.decreases-drafts
decreases-drafts g l = vec_len l.drafts
