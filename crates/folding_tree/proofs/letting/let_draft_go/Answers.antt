use Rattle.std.proofs.Common.{◌≡◌, [], ◌++◌, ap, subst, ◌∙◌}
use Rattle.pin_table.proofs.Covering.{covered-left, covered-right}
use Rattle.tree_laws.specs.Pairs.{pair_digest}
use Rattle.folding_tree.specs.Levels.{parts_pins}
use Rattle.tree_laws.specs.Trades.{Trades}
use Rattle.tree_laws.proofs.TradeLaws.{trades-both, trades-before, trades-covered}
use Rattle.folding_tree.proofs.letting.let_draft_go.Goals as goal

pub let_last_go-requires-clause-covered : goal.let_last_go-requires-clause-covered
let_last_go-requires-clause-covered g c =
    let d = pair_digest g.J.Job.encoded in
    covered-left c.args.caller.now (parts_pins d c.args.draft.changed.items) (parts_pins d c.args.draft.fresh.items) c.requires.covered

pub let_last_go-requires-2-clause-of : goal.let_last_go-requires-2-clause-of
let_last_go-requires-2-clause-of g c = c.let_last_go.ensures.trades.balanced.later.locks ∙ c.requires.of

pub let_last_go-requires-2-clause-covered : goal.let_last_go-requires-2-clause-covered
let_last_go-requires-2-clause-covered g c =
    let d = pair_digest g.J.Job.encoded in
    let u = c.args.caller.now in
    let v = c.let_last_go.new.caller in
    let changed = parts_pins d c.args.draft.changed.items in
    let fresh = parts_pins d c.args.draft.fresh.items in
    let after = parts_pins d c.let_last_go.new.parts.items in
    covered-right v after fresh (trades-covered u v (changed ++ fresh) (after ++ fresh) (trades-before u v fresh changed after c.let_last_go.ensures.trades) c.requires.covered)

pub returns : goal.returns
returns g c =
    let d = pair_digest g.J.Job.encoded in
    let u = c.args.caller.now in
    let v = c.let_last_go.new.caller in
    let w = c.let_last_go-2.new.caller in
    let changed = parts_pins d c.args.draft.changed.items in
    let fresh = parts_pins d c.args.draft.fresh.items in
    let left = c.let_last_go.new.parts.items in
    let right = c.let_last_go-2.new.parts.items in
    let none : parts_pins d left ++ parts_pins d right ≡ [] = ap (λ xs. parts_pins d xs ++ parts_pins d right) c.let_last_go.ensures.rest ∙ ap (parts_pins d) c.let_last_go-2.ensures.rest in
    subst (λ qs. Trades u (changed ++ fresh) w qs) none (trades-both u v w changed fresh (parts_pins d left) (parts_pins d right) c.let_last_go.ensures.trades c.let_last_go-2.ensures.trades)
