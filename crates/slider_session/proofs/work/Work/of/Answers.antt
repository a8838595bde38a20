use Rattle.std.proofs.Common.{rules, ap, arith}
use Rattle.job_laws.specs.declared.meter.Counts.{Counts}
use Rattle.slider_session.proofs.WorkLaws.{sum-next}
use Rattle.slider_session.proofs.work.Work.of.Goals as goal

pub lanes-preserved : goal.lanes-preserved
lanes-preserved g c =
    let inv = c.lanes.invariant in
    let more = sum-next (λ m. (g.M.Meter.counts m).maps) c.deref-lane-items.result.now c.lanes.lane-index c.lane-item.result c.lanes-test.true c.lane-item.is in
    let read = ap (λ (n : Counts). n.maps) c.counts.ensures in
    let maps = inv.maps in
    let few = inv.few in
    record {
      maps = omega (arith, maps, more, read);
      none = inv.none;
      few = search (few, rules);
    }

pub parts-preserved : goal.parts-preserved
parts-preserved g c =
    let inv = c.parts.invariant in
    let i = c.parts.part-index in
    let more_merges = sum-next (λ m. (g.M.Meter.counts m).merges) c.deref-part-items.result.now i c.part-item.result c.parts-test.true c.part-item.is in
    let more_joins = sum-next (λ m. (g.M.Meter.counts m).joins) c.deref-part-items.result.now i c.part-item.result c.parts-test.true c.part-item.is in
    let read_merges = ap (λ (n : Counts). n.merges) c.counts-counts.ensures in
    let read_joins = ap (λ (n : Counts). n.joins) c.counts-counts.ensures in
    let merges = inv.merges in
    let joins = inv.joins in
    let few_merges = inv.few.0 in
    let few_joins = inv.few.1 in
    record {
      maps = inv.maps;
      merges = omega (arith, merges, more_merges, read_merges);
      joins = omega (arith, joins, more_joins, read_joins);
      few = (search (few_merges, rules), search (few_joins, rules));
    }
