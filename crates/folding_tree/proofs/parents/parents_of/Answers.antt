use Rattle.std.proofs.Common.{◌≤◌, ◌<◌, ◌/◌, length, subst, arith}
use Rattle.std.proofs.lemmas.List.{get_or_read}
use Rattle.folding_tree.specs.Levels.{IsAdded}
use Rattle.folding_tree.specs.Folding.{row_of, ahead_of}
use Rattle.folding_tree.proofs.ParentLaws.{parents-begin, parents-more, parents-end}
use Rattle.folding_tree.proofs.parents.parents_of.Goals as goal

pub places-init : goal.places-init
places-init g c = parents-begin (row_of c.args.below.now) (ahead_of c.args.draft.now) c.args.mid c.requires c.in-Ok.above.items c.in-Ok.ensures

pub places-preserved : goal.places-preserved
places-preserved g c =
    let row = row_of c.args.below.now in
    let ahead = ahead_of c.args.draft.now in
    let places = c.args.draft.now.places.items in
    let lt : c.places.i < length places = (let t = c.places-test.true in let n = c.len-i-end.ensures in let ok = c.args.draft.now.places.ok.0 in omega (arith, t, n, ok)) in
    let at = get_or_read places c.places.i c.index.result.now lt c.index.ensures 0 in
    parents-more row ahead c.args.mid c.requires c.places.i c.places.above.items c.add_parent.new.above.items c.places.invariant lt
    (subst (λ p. IsAdded c.args.mid (p / 2) c.places.above.items c.add_parent.new.above.items) at c.in-Ok-add_parent.ensures)

pub returns : goal.returns
returns g c =
    let le : length c.args.draft.now.places.items ≤ c.places.i = (let t = c.places-test.false in let n = c.len-i-end.ensures in let ok = c.args.draft.now.places.ok.0 in omega (arith, t, n, ok)) in
    parents-end (row_of c.args.below.now) (ahead_of c.args.draft.now) c.args.mid c.requires c.places.above.items c.places.i le c.places.invariant
