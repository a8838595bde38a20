use Rattle.std.proofs.Common.{rules, ◌≡◌, ◌-◌, ◌+◌, ◌++◌, true, ap, ◌∙◌, arith}
use Rattle.std.specs.Result.{is_ok}
use Rattle.random_tree.proofs.SpliceLaws.{turned, replaced}
use Rattle.random_tree.proofs.splicing.replace.Goals as goal

pub returns-clause-items : goal.returns-clause-items
returns-clause-items g c =
    let n = c.len.ensures in
    let ok = c.args.list.now.ok.0 in
    let kept = c.len.result - (c.args.first + c.args.gone) in
    let done : is_ok c.append.result ≡ true = search rules in
    let appended : c.append.new.self.items ≡ c.args.list.now.items ++ c.args.fresh.now.items = rw done at c.append.ensures.items in
    c.turn-2.ensures.items
    ∙ (ap (turned c.args.first c.args.gone) (c.turn.ensures.items ∙ ap (turned (c.args.first + c.args.gone) kept) appended)
    ∙ replaced c.args.list.now.items c.args.fresh.now.items c.args.first c.args.gone kept c.requires.within (omega (arith, n, ok)))
