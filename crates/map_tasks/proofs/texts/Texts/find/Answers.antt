use Rattle.std.proofs.Common.{◌≡◌, ℕ, List, None, sym, subst}
use Rattle.std.specs.Map.{lookup}
use Rattle.map_tasks.specs.Table.{TableView, IsAt, FindsText, is_key}
use Rattle.map_tasks.proofs.Rows.{finds-at, absent-digest}
use Rattle.map_tasks.proofs.texts.Texts.find.Goals as goal

pub returns-then-is : goal.returns-then-is
returns-then-is g c =
    subst (λ (v : TableView). IsAt c.args.records.now v.rows c.in-Some.place) c.self.view_is
    (finds-at c.self.inside.calm c.self.inside.next c.self.inside.map.entries c.self.invariant c.args.records.now c.in-Some.place c.in-Some.field-0-1.now c.in-Some.held.now c.in-Some.ensures.entry (c.is.ensures.0 c.if-is.true))

pub returns-then-self-eq1 : goal.returns-then-self-eq1
returns-then-self-eq1 g c =
    let none : lookup (is_key c.args.digest.now 0) c.self.inside.map.entries ≡ None = sym c.in-None.ensures.value in
    subst (λ (v : TableView). FindsText c.args.records.now v.rows None) c.self.view_is
    (absent-digest c.self.inside.next c.args.records.now c.self.inside.map.entries c.self.invariant.keyed c.if-self-eq1.true (subst (λ (d : List ℕ). lookup (is_key d 0) c.self.inside.map.entries ≡ None) c.requires none))
