use Rattle.std.proofs.Common.{◌≡◌, sym, subst}
use Rattle.std.proofs.lemmas.Result.{IfOk-weaker}
use Rattle.job_topk.specs.TopK.{topk_joined, topk_good}
use Rattle.job_topk.specs.Laws.{topk_join_laws}
use Rattle.job_topk.proofs.tests.join.Goals as goal

pub returns : goal.returns
returns c =
    let k = c.args.job.now in
    let a = c.args.a.now in
    let b = c.args.b.now in
    IfOk-weaker c.combine.result (λ v. v ≡ topk_joined k a b) (λ v. topk_good k v) (λ v is. subst (topk_good k) (sym is) ((topk_join_laws k).keeps a b c.requires.left c.requires.right)) c.combine.ensures.ok
