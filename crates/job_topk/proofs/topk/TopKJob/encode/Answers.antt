use Rattle.std.proofs.Common.{◌≡◌, ◌≤◌, ◌<◌, ◌++◌, ◌∙◌, ℕ, List, ap, subst, get_or, length, arith}
use Rattle.std.proofs.lemmas.List.{take_all}
use Rattle.std.proofs.lemmas.Result.{err_from_is_err_and}
use Rattle.definitions.specs.Outside.{GainsPrefix}
use Rattle.job_laws.proofs.Gains.{piece_more, gains_next}
use Rattle.job_topk.specs.TopK.{member_encoded, topk_encoded}
use Rattle.job_topk.proofs.topk.TopKJob.encode.Goals as goal

pub returns-in_err-put_encoded-clause-err : goal.returns-in_err-put_encoded-clause-err
returns-in_err-put_encoded-clause-err g c =
    let p = err_from_is_err_and c.from_residual.result c.from_residual.ensures.1 in
    let v = c.args.v.now in
    let i = c.members.member-index in
    let m = c.member-item.result in
    let stands : m ≡ get_or v i m = c.member-item.is ∙ ap (λ (l : List (ℕ × List ℕ)). get_or l i m) c.members-member-items.ensures in
    let within : i < length v = grind arith in
    let mid = c.members.out.items in
    let new = c.put_encoded.new.out.items in
    let prefix : GainsPrefix (member_encoded m) mid new = c.in_err-put_encoded.ensures.err in
    rw p.1 (gains_next member_encoded v i m within c.args.out.now.items mid new c.members.invariant (subst (λ (x : ℕ × List ℕ). GainsPrefix (member_encoded x) mid new) stands prefix))

pub members-preserved : goal.members-preserved
members-preserved g c =
    let v = c.args.v.now in
    let i = c.members.member-index in
    let m = c.member-item.result in
    let stands : m ≡ get_or v i m = c.member-item.is ∙ ap (λ (l : List (ℕ × List ℕ)). get_or l i m) c.members-member-items.ensures in
    let within : i < length v = grind arith in
    c.in_ok-put_encoded.ensures.ok
    ∙ ap (λ (x : ℕ × List ℕ). c.members.out.items ++ member_encoded x) stands
    ∙ ap (λ (l : List ℕ). l ++ member_encoded (get_or v i m)) c.members.invariant
    ∙ piece_more member_encoded v i m within c.args.out.now.items

pub returns-clause-ok : goal.returns-clause-ok
returns-clause-ok g c =
    let v = c.args.v.now in
    let ended : length v ≤ c.members.member-index = grind arith in
    c.members.invariant ∙ ap (λ (l : List (ℕ × List ℕ)). c.args.out.now.items ++ topk_encoded l) (take_all c.members.member-index v ended)
