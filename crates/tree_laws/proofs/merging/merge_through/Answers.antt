use Rattle.std.proofs.Common.{◌≡◌, ◌<◌, ◌⊎◌, true, sym, subst}
use Rattle.std.specs.List.{list_any}
use Rattle.pin_table.specs.Known.{IsWorn}
use Rattle.pin_table.specs.OwnEvents.{IsKnown, there, gained, is_hit, is_miss}
use Rattle.tree_laws.specs.Pairs.{PairOf, pair_of, pair_digest}
use Rattle.tree_laws.proofs.merging.merge_through.Goals as goal

pub returns-clause-looked : goal.returns-clause-looked
returns-clause-looked g c =
    let d = pair_digest g.J.Job.encoded in
    let v = c.args.caller.now in
    let w = c.merge_pair.new.caller in
    let same : pair_of c.in_ok-left.left c.in_ok-right.right ≡ pair_of c.args.a.now c.args.b.now = λ i. pair_of (c.in_ok-left.ensures.same i) (c.in_ok-right.ensures.same i) in
    λ rose. subst (λ (p : PairOf g.row.J-Val.Denot). (list_any (is_miss (d p)) (gained (d p) v w) ≡ true) ⊎ IsWorn (there (d p) v) w) same (c.merge_pair.ensures.looked rose)

pub returns-clause-hit : goal.returns-clause-hit
returns-clause-hit g c =
    let d = pair_digest g.J.Job.encoded in
    let v = c.args.caller.now in
    let w = c.merge_pair.new.caller in
    let same : pair_of c.in_ok-left.left c.in_ok-right.right ≡ pair_of c.args.a.now c.args.b.now = λ i. pair_of (c.in_ok-left.ensures.same i) (c.in_ok-right.ensures.same i) in
    λ hit. c.merge_pair.ensures.hit (subst (λ (p : PairOf g.row.J-Val.Denot). list_any (is_hit (d p)) (gained (d p) v w) ≡ true) (sym same) hit)

pub returns-clause-known : goal.returns-clause-known
returns-clause-known g c =
    let d = pair_digest g.J.Job.encoded in
    let v = c.args.caller.now in
    let same : pair_of c.in_ok-left.left c.in_ok-right.right ≡ pair_of c.args.a.now c.args.b.now = λ i. pair_of (c.in_ok-left.ensures.same i) (c.in_ok-right.ensures.same i) in
    λ known. c.merge_pair.ensures.known (subst (λ (p : PairOf g.row.J-Val.Denot). IsKnown (d p) v) (sym same) known)
