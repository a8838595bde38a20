use Rattle.std.proofs.Common.{rules, ◌++◌, ◌∷◌, map, sym, ap, subst, ◌∙◌}
use Rattle.std.proofs.lemmas.List.Elements.{All-cons}
use Rattle.pin_table.specs.Covers.{Covered, Balanced}
use Rattle.pin_table.proofs.Covering.{covered-left, balanced-same}
use Rattle.tree_laws.specs.Pairs.{pair_digest}
use Rattle.tree_laws.proofs.TradeLaws.{covered-rest, balanced-both}
use Rattle.random_tree.specs.Levels.{IsUndrafted, now_of, level_pins, levels_pins}
use Rattle.random_tree.proofs.reverting.+revert_all.Goals as goal

pub returns-in-None-clause-balanced : goal.returns-in-None-clause-balanced
returns-in-None-clause-balanced g t c = balanced-same c.args.caller.now (levels_pins (pair_digest g.J.Job.encoded) c.args.levels.now)

pub revert-requires-clause-covered : goal.revert-requires-clause-covered
revert-requires-clause-covered g t c =
    let d = pair_digest g.J.Job.encoded in
    let u = c.args.caller.now in
    let l = c.in-Some.level.now in
    let ls = c.in-Some.more.now in
    covered-left u (level_pins d l) (levels_pins d ls) (subst (λ ks. Covered u (levels_pins d ks)) c.in-Some.ensures.cases.0 c.requires.covered)

pub revert_all-requires : goal.revert_all-requires
revert_all-requires g t c κs within =
    let d = pair_digest g.J.Job.encoded in
    let u = c.args.caller.now in
    let v = c.revert.new.caller in
    let l = c.in-Some.level.now in
    let ls = c.in-Some.more.now in
    let is = c.in-Some.ensures.cases.0 in
    let covered = covered-rest u v (level_pins d l) (levels_pins d ls) (level_pins d c.revert.new.level) (subst (λ ks. Covered u (levels_pins d ks)) is c.requires.covered) c.revert.ensures.balanced in
    (search rules, (search rules, (search rules, (search rules, (search rules, (c.revert.ensures.balanced.later.locks ∙ c.requires.of, covered))))))

pub returns-in-Some-clause-same : goal.returns-in-Some-clause-same
returns-in-Some-clause-same g t c =
    (λ i. c.revert.ensures.same i ∷ c.revert_all.ensures.same i) ∙ sym (ap (map now_of) c.in-Some.ensures.cases.0)

pub returns-in-Some-clause-undrafted : goal.returns-in-Some-clause-undrafted
returns-in-Some-clause-undrafted g t c = All-cons IsUndrafted c.revert.new.level c.revert_all.new.levels c.revert.ensures.undrafted c.revert_all.ensures.undrafted

pub returns-in-Some-clause-balanced : goal.returns-in-Some-clause-balanced
returns-in-Some-clause-balanced g t c =
    let d = pair_digest g.J.Job.encoded in
    let u = c.args.caller.now in
    let v = c.revert.new.caller in
    let w = c.revert_all.new.caller in
    let l = c.in-Some.level.now in
    let ls = c.in-Some.more.now in
    let l1 = c.revert.new.level in
    let ls1 = c.revert_all.new.levels in
    subst (λ ks. Balanced u (levels_pins d ks) w (level_pins d l1 ++ levels_pins d ls1)) (sym c.in-Some.ensures.cases.0)
    (balanced-both u v w (level_pins d l) (levels_pins d ls) (level_pins d l1) (levels_pins d ls1) c.revert.ensures.balanced c.revert_all.ensures.balanced)
