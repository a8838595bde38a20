use Rattle.std.proofs.Common.{◌<◌, length, subst, sym, ◌∙◌, arith}
use Rattle.pin_table.specs.Views.{CallerView}
use Rattle.pin_table.proofs.Giving.{still, rest-more, gives-more}
use Rattle.pin_table.proofs.closing.gather.Goals as goal

pub give-requires : goal.give-requires
give-requires g c =
    let i = c.places.invariant in let test = c.places-test.true in
    subst (λ (x : CallerView). 0 < length x.locks) (sym (still c.args.callers.now.items c.places.callers.items c.places.i i.rest c.index_mut.result.now c.index_mut.ensures.value)) (c.requires.some c.places.i c.index_mut.result.now (omega (arith, test, i.length, c.len-i-end.ensures, c.args.callers.now.ok.0)))

pub places-preserved : goal.places-preserved
places-preserved g c =
    let i = c.places.invariant in let test = c.places-test.true in let p = c.push_reserved.ensures in
    let left : c.places.i < length c.args.callers.now.items = omega (arith, test, i.length, c.len-i-end.ensures, c.args.callers.now.ok.0) in
    let right : c.places.i < length c.places.callers.items = omega (arith, test, i.length, c.len-i-end.ensures, c.places.callers.ok.0) in
    record {
      count = omega (arith, p.len, i.count);
      room = p.capacity ∙ i.room;
      length = i.length;
      rest = rest-more c.args.callers.now.items c.places.callers.items c.places.i i.rest c.give.new.self;
      given = gives-more c.args.callers.now.items c.places.callers.items c.places.i i.rest c.places.row.items c.push_reserved.new.self.items c.index_mut.result.now c.give.new.self c.give.result left right c.index_mut.ensures.value i.given c.give.ensures p.items;
    }
