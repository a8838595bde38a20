use Rattle.std.proofs.Common.{◌<◌, length, refl, sym, ap, subst, arith}
use Rattle.std.specs.Prelude.{option_copied}
use Rattle.job_laws.specs.Meanings.{meaning_of}
use Rattle.run_engine.specs.Inputs.{texts_of}
use Rattle.run_engine.specs.Engines.{EngineView, IsAnswer, IsPartSeat}
use Rattle.run_engine.specs.declared.part_seat.PartSeat.{PartSeat}
use Rattle.run_engine.proofs.Roots.{root-answers}
use Rattle.run_engine.proofs.engine.Engine.root.Goals as goal

pub returns : goal.returns
returns g c =
    let laws = g.met.J.Job in
    let e = c.self.inside in
    let whole = c.self.invariant.0 in
    let s = g.J.Job.setting e.job in
    let m = meaning_of g.J.Job e.job in
    let leaves = texts_of e.leaves.items in
    let parts = ap (λ (v : EngineView _ _). v.settings.parts) c.self.view_is in
    let count = whole.parts_count in
    let inside : c.args.part < length e.parts.items = let lt = c.requires in omega (arith, lt, parts, count) in
    let seat = subst (λ (p : PartSeat _ _ _ _). IsPartSeat m g.T.Tree.view g.T.Tree.pins g.T.Tree.most s e.settings.parts e.settings.places e.first e.merge_memo.locks leaves c.args.part p) (sym c.index.ensures) (whole.parts_are c.args.part c.index.result.now inside) in
    subst (λ (v : EngineView _ _). IsAnswer (meaning_of g.J.Job v.job) (g.J.Job.setting v.job) v.settings.parts c.args.part v.leaves (option_copied c.root.result)) c.self.view_is
    (root-answers m (g.J.Job.good s) (λ r. laws.emits_good s r) (c.part_laws.ensures.append s) e.settings.parts c.args.part g.J.Job.joined s refl leaves whole.accepted (g.T.Tree.view c.index.result.now.tree) seat.stands.setting_is seat.stands.tables (option_copied c.root.result) c.root.ensures)
