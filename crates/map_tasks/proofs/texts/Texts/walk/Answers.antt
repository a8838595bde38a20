use Rattle.std.proofs.Common.{◌≡◌, ◌≢◌, ℕ, ◌≤◌, List, None, All, length, true, false, sym, subst, ◌∙◌, arith}
use Rattle.std.proofs.lemmas.List.{take_all}
use Rattle.std.proofs.lemmas.Option.{slice_get_within}
use Rattle.std.proofs.lemmas.List.Elements.{All-more}
use Rattle.map_tasks.specs.Texts.{TextView}
use Rattle.map_tasks.specs.Table.{TableView, IsAt, FindsText}
use Rattle.map_tasks.proofs.Rows.{finds-at, reads}
use Rattle.map_tasks.proofs.texts.Texts.walk.Goals as goal

pub returns-then-is : goal.returns-then-is
returns-then-is g c =
    subst (λ (v : TableView). IsAt c.args.records.now v.rows c.places.place) c.self.view_is
    (finds-at c.self.inside.calm c.self.inside.next c.self.inside.map.entries c.self.invariant c.args.records.now c.places.place c.in-Some.field-0-0.now c.in-Some.held.now (sym c.in-Some.ensures.entry) (c.is.ensures.0 c.if-is.true))

pub places-preserved : goal.places-preserved
places-preserved g c =
    let at = sym c.in-Some.ensures.entry in
    let es = c.self.inside.map.entries in
    All-more (λ (r : (List ℕ × ℕ) × TextView). r.1.input.text ≢ c.args.records.now) es c.places.place (c.in-Some.field-0-0.now, c.in-Some.held.now) (slice_get_within es c.places.place (c.in-Some.field-0-0.now, c.in-Some.held.now) at) c.places.invariant
    (subst (λ (r : (List ℕ × ℕ) × TextView). r.1.input.text ≢ c.args.records.now) (sym (reads es c.places.place (c.in-Some.field-0-0.now, c.in-Some.held.now) (c.in-Some.field-0-0.now, c.in-Some.held.now) at))
    (λ same. let yes = c.is.ensures.1 same in let both : true ≡ false = sym yes ∙ c.if-is.false in cc))

pub returns : goal.returns
returns g c =
    let es = c.self.inside.map.entries in
    let far : length es ≤ c.places.place = (let a = c.len-place-end.ensures.len in let b = c.places-test.false in omega (arith, a, b)) in
    subst (λ (v : TableView). FindsText c.args.records.now v.rows None) c.self.view_is
    (subst (All (λ (r : (List ℕ × ℕ) × TextView). r.1.input.text ≢ c.args.records.now)) (take_all c.places.place es far) c.places.invariant)
