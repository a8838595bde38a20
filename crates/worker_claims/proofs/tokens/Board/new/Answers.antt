use Rattle.std.proofs.Common.{arith, refl, sym, ap, ◌∙◌, subst, map, length, Some, All}
use Rattle.std.specs.Option.{IsSome}
use Rattle.worker_claims.proofs.Lists.{all_some, same_some}
use Rattle.worker_claims.proofs.Shares.{starts}
use Rattle.worker_claims.proofs.tokens.Board.new.Goals as goal

pub move_back-requires-clause-some : goal.move_back-requires-clause-some
move_back-requires-clause-some g c = subst (All (λ o. IsSome o)) (sym c.move_out.ensures.slots) (all_some c.args.tasks.items)

pub returns-in-Err-clause-err : goal.returns-in-Err-clause-err
returns-in-Err-clause-err g c = same_some _ _ (c.move_back.ensures ∙ c.move_out.ensures.slots)

pub new-requires-2 : goal.new-requires-2
new-requires-2 g c = starts _ c.args.hands _ _ refl (c.move_out.ensures.slots ∙ ap (λ v. map Some v.items) (sym c.of.ensures)) (omega (arith, ap (λ v. length v.items) c.of.ensures, c.requires.tasks, c.args.tasks.ok.0)) c.requires.hands.0 c.requires.hands.1

pub move_back-requires-in-Err-new-clause-some : goal.move_back-requires-in-Err-new-clause-some
move_back-requires-in-Err-new-clause-some g c = subst (All (λ o. IsSome o)) (sym (c.in-Err-new.ensures.err ∙ c.move_out.ensures.slots)) (all_some c.args.tasks.items)

pub returns-in-Err-new-clause-err : goal.returns-in-Err-new-clause-err
returns-in-Err-new-clause-err g c = same_some _ _ (c.move_back-in-Err-new.ensures ∙ (c.in-Err-new.ensures.err ∙ c.move_out.ensures.slots))
