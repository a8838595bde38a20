use Rattle.std.proofs.Common.{rules}
use Rattle.collector.specs.Collectors.{horizon_of}
use Rattle.run_engine.proofs.SweepSteps.{swept-one, worn-one, missed-one}
use Rattle.run_engine.proofs.sweep_seat.sweep_one.Goals as goal

pub returns-in-Ok : goal.returns-in-Ok
returns-in-Ok g c = swept-one (horizon_of c.args.collector.now.keep c.args.run) c.args.shard c.args.collector.now c.sweep_shard.new.self _ c.sweep_shard.ensures.same.0 c.in-Ok.ensures.swept _

pub returns-in-Err-Worn : goal.returns-in-Err-Worn
returns-in-Err-Worn g c =
    let worn = rw c.in-Err-Worn.field-0-is at c.in-Err-Worn.ensures.fault in
    worn-one (horizon_of c.args.collector.now.keep c.args.run) c.args.shard c.args.collector.now c.sweep_shard.new.self _ c.sweep_shard.ensures.same.0 worn _

pub returns-in-Err-Mem : goal.returns-in-Err-Mem
returns-in-Err-Mem g c = missed-one (horizon_of c.args.collector.now.keep c.args.run) c.args.shard c.args.collector.now c.sweep_shard.new.self c.sweep_shard.ensures.same.0 (search rules) _
