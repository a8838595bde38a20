use Rattle.std.proofs.Common.{◌≡◌, ℕ, ◌+◌, ◌<◌, List, Some, None, refl, sym, subst, arith}
use Rattle.indexmap.specs.Layout.{set_value_at}
use Rattle.map_tasks.specs.Texts.{TextView, TextFits, rest_of, finished}
use Rattle.map_tasks.specs.Table.{TableView, IsTable, FinishesNext}
use Rattle.map_tasks.proofs.Rows.{table-finished, table-taken, finishes-kept, finishes-taken, finished-fits, same_value}
use Rattle.map_tasks.proofs.texts.Texts.finish_next.Goals as goal

pub invariant_of-self : goal.invariant_of-self
invariant_of-self g c =
    let e = c.pair_mut-held.result.1.now in
    let same : c.in-Some.held.now ≡ e = same_value c.self.inside.map.entries c.self.inside.calm c.in-Some.field-0-0.now c.pair_mut-held.result.0.now c.in-Some.held.now e (sym c.in-Some.ensures.entry) c.pair_mut-held.ensures.value in
    let some : 0 < rest_of c.args.how e = subst (λ (x : TextView). 0 < rest_of c.args.how x) same (rw (sym c.rest-rest.ensures.rest) c.if-rest-gt0.true) in
    subst (λ (x : TextView). IsTable (c.self.inside.calm + 1) c.self.inside.next (set_value_at c.self.inside.map.entries c.self.inside.calm x)) (sym c.finish.ensures)
    (table-finished c.self.inside.calm c.self.inside.next c.self.inside.map.entries c.self.invariant c.pair_mut-held.result.0.now e (finished c.args.how e) c.pair_mut-held.ensures.value refl refl (finished-fits c.args.how e (subst TextFits same c.rest-rest.ensures.fits) some) (refl, refl))

pub returns-then-rest-gt0 : goal.returns-then-rest-gt0
returns-then-rest-gt0 g c =
    let same : c.in-Some.held.now ≡ c.pair_mut-held.result.1.now = same_value c.self.inside.map.entries c.self.inside.calm c.in-Some.field-0-0.now c.pair_mut-held.result.0.now c.in-Some.held.now c.pair_mut-held.result.1.now (sym c.in-Some.ensures.entry) c.pair_mut-held.ensures.value in
    subst (λ (v : TableView). FinishesNext c.args.how v (record { rows = set_value_at c.self.inside.map.entries c.self.inside.calm c.finish.new.self; calm = c.self.inside.calm + 1; next = 0 }) None) c.self.view_is
    (subst (λ (e : TextView). FinishesNext c.args.how (record { rows = c.self.inside.map.entries; calm = c.self.inside.calm; next = c.self.inside.next }) (record { rows = set_value_at c.self.inside.map.entries c.self.inside.calm e; calm = c.self.inside.calm + 1; next = 0 }) None) (sym c.finish.ensures)
    (finishes-kept c.self.inside.calm c.self.inside.next c.self.inside.map.entries c.self.invariant c.args.how c.pair_mut-held.result.0.now c.pair_mut-held.result.1.now c.pair_mut-held.ensures.value (subst TextFits same c.rest-rest.ensures.fits) (subst (λ (e : TextView). 0 < rest_of c.args.how e) same (rw (sym c.rest-rest.ensures.rest) c.if-rest-gt0.true))))

pub invariant_of-self-2 : goal.invariant_of-self-2
invariant_of-self-2 g c =
    subst (IsTable c.self.inside.calm c.self.inside.next) (sym c.in-Some-swap_remove_index.ensures.entries)
    (table-taken c.self.inside.calm c.self.inside.next c.self.inside.map.entries c.self.invariant c.in-Some-swap_remove_index.field-0-0 c.in-Some-swap_remove_index.held (sym c.in-Some-swap_remove_index.ensures.entry))

pub returns : goal.returns
returns g c =
    let same : c.in-Some.held.now ≡ c.in-Some-swap_remove_index.held = same_value c.self.inside.map.entries c.self.inside.calm c.in-Some.field-0-0.now c.in-Some-swap_remove_index.field-0-0 c.in-Some.held.now c.in-Some-swap_remove_index.held (sym c.in-Some.ensures.entry) (sym c.in-Some-swap_remove_index.ensures.entry) in
    let none : rest_of c.args.how c.in-Some.held.now ≡ 0 = (let a = c.rest-rest.ensures.rest in let b = c.if-rest-gt0.false in omega (arith, a, b)) in
    subst (λ (v : TableView). FinishesNext c.args.how v (record { rows = c.swap_remove_index.new.self.entries; calm = c.self.inside.calm; next = 0 }) (Some c.in-Some-swap_remove_index.held)) c.self.view_is
    (subst (λ (es : List ((List ℕ × ℕ) × TextView)). FinishesNext c.args.how (record { rows = c.self.inside.map.entries; calm = c.self.inside.calm; next = c.self.inside.next }) (record { rows = es; calm = c.self.inside.calm; next = 0 }) (Some c.in-Some-swap_remove_index.held)) (sym c.in-Some-swap_remove_index.ensures.entries)
    (finishes-taken c.self.inside.calm c.self.inside.next c.self.inside.map.entries c.self.invariant c.args.how c.in-Some-swap_remove_index.field-0-0 c.in-Some-swap_remove_index.held (sym c.in-Some-swap_remove_index.ensures.entry) (subst TextFits same c.rest-rest.ensures.fits) (subst (λ (e : TextView). rest_of c.args.how e ≡ 0) same none)))
