use Rattle.std.proofs.Common.{rules, ◌++◌, ◌∷◌, map, sym, ap, subst, ◌∙◌}
use Rattle.std.specs.List.{All}
use Rattle.std.proofs.lemmas.List.Elements.{All-head, All-tail, All-cons}
use Rattle.pin_table.specs.Covers.{Covered, Balanced}
use Rattle.pin_table.proofs.Covering.{covered-left, balanced-same}
use Rattle.tree_laws.specs.Pairs.{pair_digest}
use Rattle.tree_laws.proofs.TradeLaws.{covered-rest, balanced-both}
use Rattle.random_tree.specs.Levels.{Fits, HasRoom, IsUndrafted, taken, level_pins, levels_pins}
use Rattle.random_tree.proofs.settling.+settle_all.Goals as goal

pub returns-in-None-clause-balanced : goal.returns-in-None-clause-balanced
returns-in-None-clause-balanced g t c = balanced-same c.args.caller.now (levels_pins (pair_digest g.J.Job.encoded) c.args.levels.now)

pub settle-requires-clause-covered : goal.settle-requires-clause-covered
settle-requires-clause-covered g t c =
    let d = pair_digest g.J.Job.encoded in
    let u = c.args.caller.now in
    let l = c.in-Some.level.now in
    let ls = c.in-Some.more.now in
    covered-left u (level_pins d l) (levels_pins d ls) (subst (λ ks. Covered u (levels_pins d ks)) c.in-Some.ensures.cases.0 c.requires.covered)

pub settle-requires-clause-fits : goal.settle-requires-clause-fits
settle-requires-clause-fits g t c = All-head Fits c.in-Some.level.now c.in-Some.more.now (subst (All Fits) c.in-Some.ensures.cases.0 c.requires.fits)

pub settle-requires-clause-room : goal.settle-requires-clause-room
settle-requires-clause-room g t c = All-head HasRoom c.in-Some.level.now c.in-Some.more.now (subst (All HasRoom) c.in-Some.ensures.cases.0 c.requires.room)

pub settle_all-requires : goal.settle_all-requires
settle_all-requires g t c κs within =
    let d = pair_digest g.J.Job.encoded in
    let u = c.args.caller.now in
    let v = c.settle.new.caller in
    let l = c.in-Some.level.now in
    let ls = c.in-Some.more.now in
    let is = c.in-Some.ensures.cases.0 in
    let covered = covered-rest u v (level_pins d l) (levels_pins d ls) (level_pins d c.settle.new.level) (subst (λ ks. Covered u (levels_pins d ks)) is c.requires.covered) c.settle.ensures.balanced in
    let fits = All-tail Fits l ls (subst (All Fits) is c.requires.fits) in
    let room = All-tail HasRoom l ls (subst (All HasRoom) is c.requires.room) in
    (search rules, (search rules, (search rules, (search rules, (search rules, (c.settle.ensures.balanced.later.locks ∙ c.requires.of, (covered, (fits, room))))))))

pub returns-in-Some-clause-taken : goal.returns-in-Some-clause-taken
returns-in-Some-clause-taken g t c =
    (λ i. c.settle.ensures.taken i ∷ c.settle_all.ensures.taken i) ∙ sym (ap (map taken) c.in-Some.ensures.cases.0)

pub returns-in-Some-clause-undrafted : goal.returns-in-Some-clause-undrafted
returns-in-Some-clause-undrafted g t c = All-cons IsUndrafted c.settle.new.level c.settle_all.new.levels c.settle.ensures.undrafted c.settle_all.ensures.undrafted

pub returns-in-Some-clause-balanced : goal.returns-in-Some-clause-balanced
returns-in-Some-clause-balanced g t c =
    let d = pair_digest g.J.Job.encoded in
    let u = c.args.caller.now in
    let v = c.settle.new.caller in
    let w = c.settle_all.new.caller in
    let l = c.in-Some.level.now in
    let ls = c.in-Some.more.now in
    let l1 = c.settle.new.level in
    let ls1 = c.settle_all.new.levels in
    subst (λ ks. Balanced u (levels_pins d ks) w (level_pins d l1 ++ levels_pins d ls1)) (sym c.in-Some.ensures.cases.0)
    (balanced-both u v w (level_pins d l) (levels_pins d ls) (level_pins d l1) (levels_pins d ls1) c.settle.ensures.balanced c.settle_all.ensures.balanced)
