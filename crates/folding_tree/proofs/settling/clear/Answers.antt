use Rattle.std.proofs.Common.{ap, subst}
use Rattle.tree_laws.specs.Pairs.{pair_digest}
use Rattle.folding_tree.specs.Levels.{parts_pins}
use Rattle.tree_laws.specs.Trades.{Trades}
use Rattle.folding_tree.proofs.settling.clear.Goals as goal

pub returns-clause-row : goal.returns-clause-row
returns-clause-row g c = ap (λ ps. record { low = 0; parts = ps }) c.let_last_go.ensures.rest

pub returns-clause-trades : goal.returns-clause-trades
returns-clause-trades g c =
    let d = pair_digest g.J.Job.encoded in
    subst (λ ps. Trades c.args.caller.now (parts_pins d c.args.level.now.nodes.items) c.let_last_go.new.caller (parts_pins d ps)) c.let_last_go.ensures.rest c.let_last_go.ensures.trades
