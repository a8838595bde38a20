use Rattle.std.proofs.Common.{◌≡◌, ◌<◌, ◌+◌, ◌∷◌, ℕ, List, [], refl, sym, subst, ap, ◌∙◌, arith, length}
use Rattle.std.specs.Prelude.{drop, Option}
use Rattle.std.specs.Borrow.{Bor}
use Rattle.std.specs.declared.option.Option.TheVariants.{Some}
use Rattle.std.proofs.lemmas.List.Elements.{All-from_get_or}
use Rattle.sheets.specs.United.{BestIs, best_key}
use Rattle.sheets.proofs.AnswerSteps.{at_place}
use Rattle.sheets.proofs.LeastSteps.{skipped, first-taken, lower-taken, best-kept, best-least}
use Rattle.sheets.proofs.answer.least.Goals as goal
use Rattle.sheets.proofs.answer.least.Goals.{in_default-None, in-None-Some, in-Some-Some+in-Less, in-Some-Some+in_default}

pub rests-preserved : goal.rests-preserved
rests-preserved g c =
    let ts = c.args.rests.now in
    let i = c.rests.i in
    let here = at_place ts i c.index-rests-i.result c.rests-test.true c.index-rests-i.is in
    let shown = λ (b : Option (ℕ × Bor (List ℕ))). BestIs ts (i + 1) (best_key b) in
    elim c.match-first.branch [
      | in_default-None w ↦ subst shown (sym w.best-is) (skipped ts i (best_key c.rests.best) (here ∙ w.in_default-None.ensures.none refl) c.rests.invariant)
      | in-None-Some w ↦
          let best = rw w.in-None-Some.is-0 at c.rests.invariant in
          let e = w.in-None-Some.e.now in
          subst shown (sym w.best-is) (first-taken ts i e (here ∙ w.in-None-Some.ensures.some ∙ ap (λ l. e ∷ drop 1 l) (sym here)) best)
      | in-Some-Some+in-Less w ↦
          let best = rw w.in-Some-Some.is-0 at c.rests.invariant in
          let b = w.in-Some-Some.b in
          let e = w.in-Some-Some.e.now in
          subst shown (sym w.best-is) (lower-taken ts i (b.0, b.1.now) e (here ∙ w.in-Some-Some.ensures.some ∙ ap (λ l. e ∷ drop 1 l) (sym here)) (sym w.compare.ensures ∙ w.in-Less.is) best)
      | in-Some-Some+in_default w ↦
          let best = rw w.in-Some-Some.is-0 at c.rests.invariant in
          let b = w.in-Some-Some.b in
          let e = w.in-Some-Some.e.now in
          subst shown (sym w.best-is) (best-kept ts i (b.0, b.1.now) e (here ∙ w.in-Some-Some.ensures.some ∙ ap (λ l. e ∷ drop 1 l) (sym here)) (λ h. w.in_default.not-Less (w.compare.ensures ∙ h)) best)
    ]

pub returns-in-Some-clause-some : goal.returns-in-Some-clause-some
returns-in-Some-clause-some g c =
    let best = rw c.in-Some.is at c.rests.invariant in
    let at : c.rests.i ≡ length c.args.rests.now = omega arith in
    best-least c.args.rests.now (c.in-Some.i, c.in-Some.field-0-1.now) (subst (λ n. BestIs c.args.rests.now n (Some (c.in-Some.i, c.in-Some.field-0-1.now))) at best)

pub returns-in-None-clause-none : goal.returns-in-None-clause-none
returns-in-None-clause-none g c e =
    let best = rw c.in-None.is at c.rests.invariant in
    let at : c.rests.i ≡ length c.args.rests.now = omega arith in
    All-from_get_or (λ t. t ≡ []) c.args.rests.now [] (λ j h. best j (subst (λ n. j < n) (sym at) h))
