use Rattle.std.proofs.Common.{◌≡◌, ◌+◌, ◌-◌, ◌<◌, ◌++◌, ◌∙◌, ap, true, nat_lt, length, take, drop, arith, rules}
use Rattle.std.proofs.lemmas.List.{take_rest}
use Rattle.std.proofs.lemmas.Bool.Decides.{nat_tests}
use Rattle.jobs_basic.proofs.IndexSteps.{emits_behind}
use Rattle.jobs_basic.proofs.index.IndexJob.map.Goals as goal

pub returns-in-Ok-clause-ok : goal.returns-in-Ok-clause-ok
returns-in-Ok-clause-ok g c =
    let r = c.args.r.now in
    let at = c.tab_at-at.result in
    let low : at < length r = search rules in
    let within : nat_lt at (length r) ≡ true = grind (arith, nat_tests, low) in
    c.in-Ok.ensures.ok
    ∙ ap (λ ps. c.args.out.now ++ ps) (emits_behind r (take (length r - (at + 1)) (drop (at + 1) r)) at c.in-Some.doc c.tab_at-at.ensures.fields within c.in-Some.ensures.1 (take_rest r (at + 1)))
