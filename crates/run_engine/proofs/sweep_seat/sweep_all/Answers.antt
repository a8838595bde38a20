use Rattle.std.proofs.Common.{rules, ◌≡◌, ℕ, ◌≤◌, length, refl, sym, ap, subst}
use Rattle.collector.specs.Collectors.{horizon_of}
use Rattle.run_engine.specs.Sweeps.{IsSwept}
use Rattle.run_engine.proofs.SweepSteps.{swept-none, swept-more, swept-short, swept-all, at-horizon}
use Rattle.run_engine.proofs.sweep_seat.sweep_all.Goals as goal

pub shards-init : goal.shards-init
shards-init g c = record { going = refl; swept = swept-none (horizon_of c.args.seat.now.collector.keep c.args.run) c.args.seat.now.collector }

pub shards-preserved : goal.shards-preserved
shards-preserved g c =
    let so = c.shards.invariant.swept in
    let keep : horizon_of c.shards.seat.collector.keep c.args.run ≡ horizon_of c.args.seat.now.collector.keep c.args.run = ap (λ (k : ℕ). horizon_of k c.args.run) so.keep in
    record {
      going = c.shards.invariant.going;
      swept = swept-more (horizon_of c.args.seat.now.collector.keep c.args.run) c.shards.shard c.args.seat.now.collector c.shards.seat.collector c.sweep_one.new.collector so _ (at-horizon (horizon_of c.shards.seat.collector.keep c.args.run) (horizon_of c.args.seat.now.collector.keep c.args.run) c.shards.shard c.shards.seat.collector c.sweep_one.new.collector keep c.in-Ok.ensures);
    }

pub returns-in-Err : goal.returns-in-Err
returns-in-Err g c =
    let so = c.shards.invariant.swept in
    let keep : horizon_of c.shards.seat.collector.keep c.args.run ≡ horizon_of c.args.seat.now.collector.keep c.args.run = ap (λ (k : ℕ). horizon_of k c.args.run) so.keep in
    swept-short (horizon_of c.args.seat.now.collector.keep c.args.run) c.shards.shard c.args.seat.now.collector c.shards.seat.collector c.sweep_one.new.collector so _ (at-horizon (horizon_of c.shards.seat.collector.keep c.args.run) (horizon_of c.args.seat.now.collector.keep c.args.run) c.shards.shard c.shards.seat.collector c.sweep_one.new.collector keep c.in-Err.ensures)

pub returns : goal.returns
returns g c =
    let so = c.shards.invariant.swept in
    let going = c.shards.invariant.going in
    let many : length c.args.seat.now.collector.caller.locks ≤ c.shards.shard = search rules in
    subst (λ b. IsSwept (horizon_of c.args.seat.now.collector.keep c.args.run) c.args.seat.now.collector c.shards.seat.collector b) (sym going) (swept-all (horizon_of c.args.seat.now.collector.keep c.args.run) c.shards.shard c.args.seat.now.collector c.shards.seat.collector so many)
