use Rattle.std.proofs.Common.{◌<◌, length, set, IfOk, IfErr, ap, sym, subst, ◌∙◌}
use Rattle.pin_table.specs.Views.{MemoView, CallerView}
use Rattle.pin_table.specs.Known.{AtShard, known_at}
use Rattle.pin_table.specs.Answers.{MayAsk, TookTurn, RefusedTurn}
use Rattle.pin_table.proofs.Turns.{caller_of_passes, pass-inside, pass-at, lock-at, may-asked, took-at, refused-at}
use Rattle.pin_table.proofs.memo.Memo.turn.Goals as goal

pub turn-requires-clause-of : goal.turn-requires-clause-of
turn-requires-clause-of g c =
    lock-at c.self.inside.locks.items c.caller.inside.passes.items c.args.shard c.index.result.now c.index_mut.result.now (ap (λ (v : CallerView). v.locks) c.caller.view_is ∙ (c.requires.of ∙ sym (ap (λ (m : MemoView). m.locks) c.self.view_is))) (subst (λ (m : MemoView). c.args.shard < length m.locks) (sym c.self.view_is) c.requires.shard) c.index_mut.ensures.value c.index.ensures

pub turn-requires-clause-may : goal.turn-requires-clause-may
turn-requires-clause-may g c =
    let same = ap (λ (v : CallerView). v.locks) c.caller.view_is ∙ (c.requires.of ∙ sym (ap (λ (m : MemoView). m.locks) c.self.view_is)) in
    let inside = subst (λ (m : MemoView). c.args.shard < length m.locks) (sym c.self.view_is) c.requires.shard in
    may-asked g.R.Recipe.fits g.R.Recipe.digest_of c.args.op c.caller.inside.number c.args.shard c.caller.inside.passes.items c.index_mut.result.now c.caller.invariant (pass-inside c.self.inside.locks.items c.caller.inside.passes.items c.args.shard c.index.result.now c.index_mut.result.now same inside c.index_mut.ensures.value c.index.ensures) (pass-at c.self.inside.locks.items c.caller.inside.passes.items c.args.shard c.index.result.now c.index_mut.result.now same inside c.index_mut.ensures.value c.index.ensures) (subst (λ (v : CallerView). MayAsk g.R.Recipe.fits v.number (known_at c.args.shard v) c.args.op) (sym c.caller.view_is) c.requires.may)

pub returns-clause-took : goal.returns-clause-took
returns-clause-took g c =
    let same = ap (λ (v : CallerView). v.locks) c.caller.view_is ∙ (c.requires.of ∙ sym (ap (λ (m : MemoView). m.locks) c.self.view_is)) in
    let inside = subst (λ (m : MemoView). c.args.shard < length m.locks) (sym c.self.view_is) c.requires.shard in
    let lp = pass-inside c.self.inside.locks.items c.caller.inside.passes.items c.args.shard c.index.result.now c.index_mut.result.now same inside c.index_mut.ensures.value c.index.ensures in
    let at = pass-at c.self.inside.locks.items c.caller.inside.passes.items c.args.shard c.index.result.now c.index_mut.result.now same inside c.index_mut.ensures.value c.index.ensures in
    let q = took-at g.R.Recipe.fits g.R.Recipe.digest_of c.args.op c.caller.inside.number c.args.shard c.caller.inside.passes.items c.index_mut.result.now c.turn.new.pass c.caller.invariant lp at c.turn.ensures.of.0 c.turn.result c.turn.ensures.played in
    subst (λ (v : CallerView). IfOk c.turn.result (λ reply. AtShard (TookTurn g.R.Recipe.fits g.R.Recipe.digest_of c.args.op reply v.number) c.args.shard v (caller_of_passes c.caller.inside.number (set c.caller.inside.passes.items c.args.shard c.turn.new.pass)))) c.caller.view_is q

pub returns-clause-refused : goal.returns-clause-refused
returns-clause-refused g c =
    let same = ap (λ (v : CallerView). v.locks) c.caller.view_is ∙ (c.requires.of ∙ sym (ap (λ (m : MemoView). m.locks) c.self.view_is)) in
    let inside = subst (λ (m : MemoView). c.args.shard < length m.locks) (sym c.self.view_is) c.requires.shard in
    let lp = pass-inside c.self.inside.locks.items c.caller.inside.passes.items c.args.shard c.index.result.now c.index_mut.result.now same inside c.index_mut.ensures.value c.index.ensures in
    let at = pass-at c.self.inside.locks.items c.caller.inside.passes.items c.args.shard c.index.result.now c.index_mut.result.now same inside c.index_mut.ensures.value c.index.ensures in
    subst (λ (v : CallerView). IfErr c.turn.result (λ back. RefusedTurn g.R.Recipe.fits g.R.Recipe.digest_of c.args.op back c.args.shard v (caller_of_passes c.caller.inside.number (set c.caller.inside.passes.items c.args.shard c.turn.new.pass)))) c.caller.view_is
    (refused-at g.R.Recipe.fits g.R.Recipe.digest_of c.args.op c.caller.inside.number c.args.shard c.caller.inside.passes.items c.index_mut.result.now c.turn.new.pass c.caller.invariant lp at c.turn.ensures.of.0 c.turn.result c.turn.ensures.worn)
