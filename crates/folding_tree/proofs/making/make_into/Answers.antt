use Rattle.std.proofs.Common.{◌*◌, [], length, refl, sym, ap, subst, ◌∙◌, arith}
use Rattle.std.proofs.lemmas.List.{take_all}
use Rattle.job_laws.specs.Counted.{RoseBy}
use Rattle.pin_table.specs.Covers.{Got, AreGiven}
use Rattle.pin_table.proofs.Covering.{got-same}
use Rattle.pin_table.proofs.OwnEvents.{any-met-later}
use Rattle.tree_laws.specs.Pairs.{pair_digest}
use Rattle.tree_laws.specs.Trees.{distinct_keys}
use Rattle.folding_tree.specs.Levels.{AreMade, row_after, merges_over, parts_pins, parts_loose}
use Rattle.folding_tree.specs.Folding.{row_of, ahead_of}
use Rattle.folding_tree.proofs.IntoLaws.{into-got, into-given, into-loose, into-counted, into-stopped, into-made}
use Rattle.tree_laws.proofs.GetLaws.{gets-after}
use Rattle.tree_laws.proofs.LeafLaws.{rose-still}
use Rattle.folding_tree.proofs.making.make_into.Goals as goal

pub places-init : goal.places-init
places-init g c =
    let d = pair_digest g.J.Job.encoded in
    let u = c.args.caller.now in
    let none = sym c.requires.none in
    record {
      of = c.requires.of;
      room = refl;
      count = ap length c.requires.none;
      made = subst (λ ps. AreMade g.J.Job.joined (row_after (row_of c.args.below.now) (ahead_of c.args.draft.now)) [] ps) none tt;
      got = subst (λ ps. Got u (parts_pins d ps) u) none (got-same u);
      given = subst (λ ps. AreGiven u (parts_pins d ps)) none tt;
      loose = λ h. absurd (let no = sym (ap parts_loose c.requires.none) ∙ h in cc);
      counted = λ ts within. rose-still 0 (0 * distinct_keys ts) (g.J.Meter.Meter.counts c.args.m.now);
    }

pub places-preserved : goal.places-preserved
places-preserved g c =
    let d = pair_digest g.J.Job.encoded in
    let R = row_after (row_of c.args.below.now) (ahead_of c.args.draft.now) in
    let u = c.args.caller.now in
    let v = c.places.caller in
    let w = c.make.new.caller in
    let made = c.places.made.items in
    let now = c.push_back_reserved.new.self.items in
    let p = c.in-Ok.part in
    let is = c.push_back_reserved.ensures.items in
    let inv = c.places.invariant in
    record {
      of = c.in-Ok.ensures.got.later.locks ∙ inv.of;
      room = c.push_back_reserved.ensures.capacity ∙ inv.room;
      count = (let n = c.push_back_reserved.ensures.len in let a = c.places.made.ok.0 in let b = c.push_back_reserved.new.self.ok.0 in let m = inv.count in omega (arith, n, a, b, m));
      made = into-made R c.args.places.now c.places.i c.places-test.true g.J.Job.joined made now p is inv.made c.in-Ok.ensures.made;
      got = into-got d u v w made now p is inv.got c.in-Ok.ensures.got;
      given = into-given d u v w made now p is c.in-Ok.ensures.got.later inv.given c.in-Ok.ensures.given;
      loose = into-loose u v w made now p is inv.got.later c.in-Ok.ensures.got.later inv.loose c.in-Ok.ensures.loose;
      counted = λ ts within. into-counted R c.args.places.now c.places.i c.places-test.true (distinct_keys ts) _ _ _ (inv.counted ts within) (c.in-Ok.ensures.counted ts within);
    }

pub returns-in-Err-clause-got : goal.returns-in-Err-clause-got
returns-in-Err-clause-got g c = (gets-after c.args.caller.now c.places.caller c.make.new.caller (parts_pins (pair_digest g.J.Job.encoded) c.places.made.items) (c.places.invariant.got, c.places.invariant.given) c.in-Err.ensures.err).0

pub returns-in-Err-clause-given : goal.returns-in-Err-clause-given
returns-in-Err-clause-given g c = (gets-after c.args.caller.now c.places.caller c.make.new.caller (parts_pins (pair_digest g.J.Job.encoded) c.places.made.items) (c.places.invariant.got, c.places.invariant.given) c.in-Err.ensures.err).1

pub returns-in-Err-clause-loose : goal.returns-in-Err-clause-loose
returns-in-Err-clause-loose g c = λ h. any-met-later c.args.caller.now c.places.caller c.make.new.caller c.in-Err.ensures.err.later (c.places.invariant.loose h)

pub returns-in-Err-clause-counted : goal.returns-in-Err-clause-counted
returns-in-Err-clause-counted g c = λ ts within.
    let R = row_after (row_of c.args.below.now) (ahead_of c.args.draft.now) in
    into-stopped R c.args.places.now c.places.i c.places-test.true (distinct_keys ts) _ _ _ (c.places.invariant.counted ts within) (c.in-Err.ensures.counted ts within)

pub returns-clause-made : goal.returns-clause-made
returns-clause-made g c =
    let R = row_after (row_of c.args.below.now) (ahead_of c.args.draft.now) in
    subst (λ ps. AreMade g.J.Job.joined R ps c.places.made.items) (take_all c.places.i c.args.places.now c.places-test.false) c.places.invariant.made

pub returns-clause-counted : goal.returns-clause-counted
returns-clause-counted g c = λ ts within.
    let R = row_after (row_of c.args.below.now) (ahead_of c.args.draft.now) in
    subst (λ ps. RoseBy 0 (merges_over R ps) (merges_over R ps * distinct_keys ts) (g.J.Meter.Meter.counts c.args.m.now) (g.J.Meter.Meter.counts c.places.m)) (take_all c.places.i c.args.places.now c.places-test.false) (c.places.invariant.counted ts within)
