use Rattle.std.proofs.Common.{◌≡◌, Bool, true, false, Some, IfSome, cond, take, sym, ap, ◌∙◌, subst}
use Rattle.std.specs.Ordering.{eq_by_cmp}
use Rattle.definitions.specs.Tables.{joined_found, key_cmp, reduced}
use Rattle.plain_program.proofs.KeyLaws.{good_at, reduced-take}
use Rattle.plain_program.proofs.reducing.plain_reduced.Goals.{then-is_key+in-Ok, else-is_key}
use Rattle.plain_program.proofs.reducing.plain_reduced.Goals as goal

pub joined_next-requires-clause-next : goal.joined_next-requires-clause-next
joined_next-requires-clause-next g c = good_at (g.J.Job.good (g.J.Job.setting c.args.job.now)) c.args.pairs.now c.pairs.i (c.pair.result.0.now, c.pair.result.1.now) c.requires c.pair.ensures.value

pub pairs-preserved : goal.pairs-preserved
pairs-preserved g c =
    let s = g.J.Job.setting c.args.job.now in
    let join = g.J.Job.joined s in
    let inv = c.pairs.invariant in
    let key = c.args.key.now in
    let bytes = c.pair.result.0.now in
    let next = c.pair.result.1.now in
    let before = reduced join (take c.pairs.i c.args.pairs.now) key in
    let step = reduced-take join c.args.pairs.now c.pairs.i (bytes, next) key c.pair.ensures.value in
    elim c.if-is_key.branch [
      | then-is_key+in-Ok w ↦
          let test : eq_by_cmp key_cmp key bytes ≡ true = sym c.is_key.ensures ∙ w.if-is_key.true in
          record {
            value = w.value-is ∙ w.in-Ok.ensures.joined ∙ ap (λ v. joined_found join v (Some next)) inv.value
                ∙ sym (step ∙ ap (λ (b : Bool). cond b (joined_found join before (Some next)) before) test);
            good = subst (λ v. IfSome v (g.J.Job.good s)) (sym w.value-is) w.in-Ok.ensures.good;
          }
      | else-is_key w ↦
          let test : eq_by_cmp key_cmp key bytes ≡ false = sym c.is_key.ensures ∙ w.if-is_key.false in
          record {
            value = w.value-is ∙ inv.value ∙ sym (step ∙ ap (λ (b : Bool). cond b (joined_found join before (Some next)) before) test);
            good = subst (λ v. IfSome v (g.J.Job.good s)) (sym w.value-is) inv.good;
          }
    ]
