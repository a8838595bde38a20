use Rattle.std.proofs.Common.{◌<◌, refl, sym, subst}
use Rattle.indexmap.specs.Layout.{set_value_at}
use Rattle.map_tasks.specs.Texts.{TextView, Changes, with_gone}
use Rattle.map_tasks.specs.Table.{TableView, IsTable, Touches, texts_in}
use Rattle.map_tasks.proofs.Rows.{text-at, touched, touch-changes, table-changed, gone-fits}
use Rattle.map_tasks.proofs.texts.Texts.leave_at.Goals as goal

pub leave-requires : goal.leave-requires
leave-requires g c =
    let mid : TableView = record { rows = c.self.inside.map.entries; calm = c.self.inside.calm; next = c.self.inside.next } in
    let touches : Touches c.args.place c.touch-place.result c.args.self.now mid = subst (λ (v : TableView). Touches c.args.place c.touch-place.result c.args.self.now v) (sym c.self.view_is) c.touch-place.ensures in
    let r = c.requires in
    let same = touched c.args.self.now mid c.args.place c.touch-place.result touches c.self.invariant c.pair_mut-held.result.0.now c.pair_mut-held.result.1.now c.pair_mut-held.ensures.value r.0 r.1 in
    subst (λ (x : TextView). x.gone < x.used) same r.2

pub invariant_of-self : goal.invariant_of-self
invariant_of-self g c =
    let mid : TableView = record { rows = c.self.inside.map.entries; calm = c.self.inside.calm; next = c.self.inside.next } in
    let touches : Touches c.args.place c.touch-place.result c.args.self.now mid = subst (λ (v : TableView). Touches c.args.place c.touch-place.result c.args.self.now v) (sym c.self.view_is) c.touch-place.ensures in
    let k = c.pair_mut-held.result.0.now in
    let e = c.pair_mut-held.result.1.now in
    let r = c.requires in
    let same = touched c.args.self.now mid c.args.place c.touch-place.result touches c.self.invariant k e c.pair_mut-held.ensures.value r.0 r.1 in
    let less : e.gone < e.used = subst (λ (x : TextView). x.gone < x.used) same r.2 in
    let fits = (text-at c.self.inside.calm c.self.inside.next c.self.inside.map.entries c.self.invariant c.touch-place.result k e c.pair_mut-held.ensures.value).1 in
    subst (λ (x : TextView). IsTable c.self.inside.calm c.self.inside.next (set_value_at c.self.inside.map.entries c.touch-place.result x)) (sym c.leave.ensures)
    (table-changed c.self.inside.calm c.self.inside.next c.self.inside.map.entries c.self.invariant c.touch-place.result k e (with_gone e) c.pair_mut-held.ensures.value touches.within.0 refl refl (gone-fits e fits less))

pub returns : goal.returns
returns g c =
    let mid : TableView = record { rows = c.self.inside.map.entries; calm = c.self.inside.calm; next = c.self.inside.next } in
    let touches : Touches c.args.place c.touch-place.result c.args.self.now mid = subst (λ (v : TableView). Touches c.args.place c.touch-place.result c.args.self.now v) (sym c.self.view_is) c.touch-place.ensures in
    λ r was. subst (λ (x : TextView). Changes r.1.input.text with_gone (texts_in c.args.self.now.rows) (texts_in (set_value_at c.self.inside.map.entries c.touch-place.result x))) (sym c.leave.ensures)
    (touch-changes c.args.self.now mid c.args.place c.touch-place.result touches c.self.invariant c.pair_mut-held.result.0.now c.pair_mut-held.result.1.now c.pair_mut-held.ensures.value with_gone r was)
