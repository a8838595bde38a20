use Rattle.std.proofs.Common.{◌≡◌, ℕ, ◌+◌, ◌≤◌, List, refl, sym, ap, ◌∙◌, cond, Some, None, take, length, arith}
use Rattle.definitions.specs.Tables.{joined_found, value_at}
use Rattle.job_laws.proofs.CountLaws.{rose_then}
use Rattle.sheets.specs.Groups.{shown}
use Rattle.sheets.proofs.KeyGroups.{good_pair, good_reduced, keys_put, found_more}
use Rattle.sheets.proofs.grouping.joined_by_key.Goals as goal

pub put_pair-requires-clause-held : goal.put_pair-requires-clause-held
put_pair-requires-clause-held g c = λ v is.
    let laws = g.met.J.Job in
    good_reduced (laws.join_laws (g.J.Job.setting c.args.job.now)) c.args.pairs.now c.pairs.i c.requires c.pair.result.0.now v (sym (c.pairs.invariant.found c.pair.result.0.now) ∙ is)

pub put_pair-requires-clause-good : goal.put_pair-requires-clause-good
put_pair-requires-clause-good g c =
    good_pair (g.J.Job.good (g.J.Job.setting c.args.job.now)) c.args.pairs.now c.pairs.i (c.pair.result.0.now, c.pair.result.1.now) c.requires c.pair.ensures.value

pub pairs-preserved : goal.pairs-preserved
pairs-preserved g c =
    let join = g.J.Job.joined (g.J.Job.setting c.args.job.now) in
    let ps = c.args.pairs.now in
    let key = c.pair.result.0.now in
    let v = c.pair.result.1.now in
    let i = c.pairs.i in
    let old = shown c.pairs.groups.entries in
    let new = shown c.put_pair.new.groups.entries in
    record {
      found = found_more join old new ps i (key, v) (omega (arith, c.pairs-test.true)) c.pair.ensures.value c.pairs.invariant.found c.in-Ok.ensures.ok;
      keys = keys_put old new key (λ q. joined_found join (value_at old q) (Some v)) c.pair.ensures.key c.pairs.invariant.keys c.in-Ok.ensures.ok;
      saved = omega (arith, c.in-Ok.ensures.saved, c.pairs.invariant.saved);
      counted = rose_then 0 0 i 0 0 1 (g.J.Meter.Meter.counts c.args.m.now) (g.J.Meter.Meter.counts c.pairs.m) (g.J.Meter.Meter.counts c.put_pair.new.m) c.pairs.invariant.counted c.in-Ok.ensures.counted;
    }
