use Rattle.std.proofs.Common.{◌*◌, [], subst, ◌∙◌}
use Rattle.tree_laws.specs.Pairs.{pair_digest}
use Rattle.tree_laws.specs.Trees.{distinct_keys}
use Rattle.folding_tree.specs.Levels.{parts_pins, merges_over, row_after}
use Rattle.folding_tree.specs.Folding.{row_of, ahead_of}
use Rattle.tree_laws.specs.Trades.{Trades}
use Rattle.tree_laws.proofs.TradeLaws.{trades-same, trades-then, trades-got, got-covered_all}
use Rattle.tree_laws.proofs.LeafLaws.{rose-still}
use Rattle.folding_tree.proofs.making.make_all.Goals as goal

pub returns-in-Err-clause-err : goal.returns-in-Err-clause-err
returns-in-Err-clause-err g c = trades-same c.args.caller.now []

pub returns-in-Err-clause-counted : goal.returns-in-Err-clause-counted
returns-in-Err-clause-counted g c = λ ts within.
    let n = merges_over (row_after (row_of c.args.below.now) (ahead_of c.args.draft.now)) c.args.places.now in
    rose-still n (n * distinct_keys ts) (g.J.Meter.Meter.counts c.args.m.now)

pub returns-in-Ok-make_into-clause-trades : goal.returns-in-Ok-make_into-clause-trades
returns-in-Ok-make_into-clause-trades g c =
    trades-got c.args.caller.now c.make_into.new.caller (parts_pins (pair_digest g.J.Job.encoded) c.make_into.new.made.items) c.make_into.ensures.got c.make_into.ensures.given

pub let_last_go-requires-clause-of : goal.let_last_go-requires-clause-of
let_last_go-requires-clause-of g c = c.make_into.ensures.got.later.locks ∙ c.requires.of

pub let_last_go-requires-clause-covered : goal.let_last_go-requires-clause-covered
let_last_go-requires-clause-covered g c =
    let pins = parts_pins (pair_digest g.J.Job.encoded) c.make_into.new.made.items in
    got-covered_all c.args.caller.now c.make_into.new.caller pins (trades-got c.args.caller.now c.make_into.new.caller pins c.make_into.ensures.got c.make_into.ensures.given)

pub returns-in-Err-make_into-clause-err : goal.returns-in-Err-make_into-clause-err
returns-in-Err-make_into-clause-err g c =
    let d = pair_digest g.J.Job.encoded in
    let u = c.args.caller.now in
    let v = c.make_into.new.caller in
    let w = c.let_last_go.new.caller in
    let pins = parts_pins d c.make_into.new.made.items in
    let got = trades-got u v pins c.make_into.ensures.got c.make_into.ensures.given in
    let gone : Trades v pins w [] = subst (λ ps. Trades v pins w (parts_pins d ps)) c.let_last_go.ensures.rest c.let_last_go.ensures.trades in
    trades-then u v w [] pins [] got gone
