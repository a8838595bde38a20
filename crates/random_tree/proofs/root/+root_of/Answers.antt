use Rattle.std.proofs.Common.{◌≡◌, [], ◌∷◌, length, sym, ap, ◌∙◌, arith}
use Rattle.std.specs.Option.{option_copied}
use Rattle.std.proofs.lemmas.List.{nil_from_length}
use Rattle.random_tree.specs.Levels.{now_of}
use Rattle.random_tree.proofs.RootLaws.{only-one, at-none, at-only, at-other}
use Rattle.random_tree.proofs.root.+root_of.Goals as goal

pub returns-in-None : goal.returns-in-None
returns-in-None g t c = at-none g.J.Job.good g.J.Job.joined g.J.Job.encoded c.args.levels.now (nil_from_length c.args.levels.now c.in-None.ensures.cases)

pub returns-then-len-eq1 : goal.returns-then-len-eq1
returns-then-len-eq1 g t c =
    let l = c.in-Some.level.now in
    let x = c.index.result.now in
    let n = c.len.ensures in
    let ok = l.groups.ok.0 in
    let e = c.if-len-eq1.true in
    let one : length l.groups.items ≡ 1 = omega (arith, n, ok, e) in
    let same : now_of l ≡ x ∷ [] = only-one l.groups.items x one ∙ ap (λ y. y ∷ []) (sym c.index.ensures) in
    at-only g.J.Job.good g.J.Job.joined g.J.Job.encoded c.args.levels.now c.in-Some.more.now l x c.sheet.result.now c.in-Some.ensures.cases.0 same c.sheet.ensures

pub returns-in-Some : goal.returns-in-Some
returns-in-Some g t c =
    let l = c.in-Some.level.now in
    let n = c.len.ensures in
    let ok = l.groups.ok.0 in
    let other : length (now_of l) ≡ 1 → ⊥ = λ one. c.if-len-eq1.false (omega (arith, n, ok, one)) in
    at-other g.J.Job.good g.J.Job.joined g.J.Job.encoded (λ s. g.met.J.Job.join_laws s) c.args.levels.now c.in-Some.more.now l (option_copied c.root_of.result) c.in-Some.ensures.cases.0 other c.root_of.ensures
