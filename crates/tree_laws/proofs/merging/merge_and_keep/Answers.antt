use Rattle.std.proofs.Common.{◌≡◌, ℕ, List, length, ap}
use Rattle.pin_table.specs.Placing.{shard_at}
use Rattle.pin_table.proofs.Answering.{faults-got}
use Rattle.tree_laws.specs.Pairs.{pair_digest}
use Rattle.tree_laws.proofs.MergeLaws.{stored-held, found-held, clash-held, worn-held}
use Rattle.tree_laws.proofs.merging.merge_and_keep.Goals as goal

pub returns-in-Ok-Stored-clause-held : goal.returns-in-Ok-Stored-clause-held
returns-in-Ok-Stored-clause-held g c =
    stored-held g.J.Job.joined (pair_digest g.J.Job.encoded) c.args.run c.args.pair c.args.caller.now c.keep.new.caller c.number.ensures.fits _ c.in-Ok-Stored.pin (rw c.in-Ok-Stored.field-0-is at c.in-Ok-Stored.ensures.kept)

pub returns-in-Ok-Found-clause-held : goal.returns-in-Ok-Found-clause-held
returns-in-Ok-Found-clause-held g c =
    found-held g.J.Job.joined (pair_digest g.J.Job.encoded) c.args.run c.args.pair c.args.caller.now c.keep.new.caller c.number.ensures.fits c.in-Ok-Found.pin.out c.in-Ok-Found.pin (rw c.in-Ok-Found.field-0-is at c.in-Ok-Found.ensures.kept)

pub returns-in-Ok-Clash-clause-held : goal.returns-in-Ok-Clash-clause-held
returns-in-Ok-Clash-clause-held g c =
    clash-held g.J.Job.joined (pair_digest g.J.Job.encoded) c.args.run c.args.pair c.args.caller.now c.keep.new.caller c.number.ensures.fits _ c.in-Ok-Clash.sheet _ _ _ (rw c.in-Ok-Clash.field-0-is at c.in-Ok-Clash.ensures.kept)

pub returns-in-Worn-clause-held : goal.returns-in-Worn-clause-held
returns-in-Worn-clause-held g c =
    let d = pair_digest g.J.Job.encoded in
    worn-held d c.args.pair c.args.caller.now c.keep.new.caller c.in-Err-keep.refused.out c.in-Worn.ticket (shard_at (d c.args.pair) (length c.args.memo.now.locks)) (ap (λ ls. shard_at (d c.args.pair) (length ls)) c.requires.of) (rw c.in-Worn.is at c.in-Err-keep.ensures.fault)

pub returns-in-Mem-clause-unheld : goal.returns-in-Mem-clause-unheld
returns-in-Mem-clause-unheld g c = faults-got c.in-Err-keep.refused.fault (shard_at (pair_digest g.J.Job.encoded c.args.pair) (length c.args.memo.now.locks)) c.args.caller.now c.keep.new.caller c.in-Err-keep.ensures.fault
