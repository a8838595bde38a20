use Rattle.std.proofs.Common.{◌+◌, ◌*◌}
use Rattle.std.specs.Prelude.{option_copied}
use Rattle.tree_laws.specs.Trees.{IsLeaf, IsWithin, distinct_keys}
use Rattle.folding_tree.specs.Levels.{row_after, sheet_at}
use Rattle.folding_tree.specs.Folding.{row_of, ahead_of}
use Rattle.folding_tree.proofs.MakeLaws.{half-is, half-there, half-made, half-counted}
use Rattle.folding_tree.proofs.making.make.Goals as goal

pub join_halves-requires-clause-left : goal.join_halves-requires-clause-left
join_halves-requires-clause-left g c =
    half-is (row_after (row_of c.args.below.now) (ahead_of c.args.draft.now)) (2 * c.args.place) (option_copied c.next-left.result) c.next-left.ensures (IsLeaf g.J.Job.good (g.J.Job.setting c.args.job.now)) c.requires.leaves

pub join_halves-requires-clause-right : goal.join_halves-requires-clause-right
join_halves-requires-clause-right g c =
    half-is (row_after (row_of c.args.below.now) (ahead_of c.args.draft.now)) (2 * c.args.place + 1) (option_copied c.next-right.result) c.next-right.ensures (IsLeaf g.J.Job.good (g.J.Job.setting c.args.job.now)) c.requires.leaves

pub join_halves-requires-clause-some : goal.join_halves-requires-clause-some
join_halves-requires-clause-some g c =
    half-there (row_of c.args.below.now) (ahead_of c.args.draft.now) c.requires.fits c.args.place (option_copied c.next-left.result) (option_copied c.next-right.result) c.next-left.ensures c.next-right.ensures c.requires.half

pub returns-in-Ok-clause-made : goal.returns-in-Ok-clause-made
returns-in-Ok-clause-made g c =
    half-made (row_of c.args.below.now) (ahead_of c.args.draft.now) c.requires.fits c.args.place (option_copied c.next-left.result) (option_copied c.next-right.result) c.next-left.ensures c.next-right.ensures g.J.Job.joined c.in-Ok.part c.in-Ok.ensures.made

pub returns-in-Ok-clause-counted : goal.returns-in-Ok-clause-counted
returns-in-Ok-clause-counted g c = λ ts within.
    let R = row_after (row_of c.args.below.now) (ahead_of c.args.draft.now) in
    let a = option_copied c.next-left.result in
    half-counted a (option_copied c.next-right.result) (sheet_at R (2 * c.args.place)) (sheet_at R (2 * c.args.place + 1)) (distinct_keys ts) (g.J.Meter.Meter.counts c.args.m.now) (g.J.Meter.Meter.counts c.join_halves.new.m) c.next-left.ensures c.next-right.ensures
    (c.join_halves.ensures.counted ts (half-is R (2 * c.args.place) a c.next-left.ensures (λ s. IsWithin s.entries ts) within))

pub returns-in-Err-clause-counted : goal.returns-in-Err-clause-counted
returns-in-Err-clause-counted g c = λ ts within.
    let R = row_after (row_of c.args.below.now) (ahead_of c.args.draft.now) in
    let a = option_copied c.next-left.result in
    half-counted a (option_copied c.next-right.result) (sheet_at R (2 * c.args.place)) (sheet_at R (2 * c.args.place + 1)) (distinct_keys ts) (g.J.Meter.Meter.counts c.args.m.now) (g.J.Meter.Meter.counts c.join_halves.new.m) c.next-left.ensures c.next-right.ensures
    (c.join_halves.ensures.counted ts (half-is R (2 * c.args.place) a c.next-left.ensures (λ s. IsWithin s.entries ts) within))
