use Rattle.std.proofs.Common.{◌≡◌, ℕ, List, ◌+◌, ◌-◌, ◌++◌, [], ◌∷◌, ◌∙◌, ap, refl, sym, subst, length, take, drop}
use Rattle.std.proofs.lemmas.List.{take_rest}
use Rattle.std.proofs.lemmas.Result.{err_from_is_err_and}
use Rattle.definitions.specs.Numbers.{digits_value}
use Rattle.job_laws.specs.Gained.{GainsPairs}
use Rattle.job_laws.specs.Forms.{split_at_tab}
use Rattle.job_laws.specs.Fields.{fields_at}
use Rattle.job_laws.proofs.Gains.{gains_no_pairs}
use Rattle.job_topk.specs.TopK.{topk_emits}
use Rattle.job_topk.proofs.Found.{emits_found}
use Rattle.job_topk.proofs.topk.TopKJob.map.Goals as goal

pub returns-in_err-put-clause-err : goal.returns-in_err-put-clause-err
returns-in_err-put-clause-err g c =
    let p = err_from_is_err_and c.from_residual-in_err-put.result c.from_residual-in_err-put.ensures.1 in
    let stays : c.put.new.self ≡ c.args.out.now = c.in_err-put.ensures.err in
    rw p.1 (subst (λ l. GainsPairs (topk_emits c.args.r.now) c.args.out.now l) (sym stays) (gains_no_pairs (topk_emits c.args.r.now) c.args.out.now))

pub returns-in_ok-put-clause-ok : goal.returns-in_ok-put-clause-ok
returns-in_ok-put-clause-ok g c =
    let r = c.args.r.now in
    let at = c.tab_at-at.result in
    let end = c.tab_at-end.result in
    let behind = take (length r - (at + 1)) (drop (at + 1) r) in
    let next : split_at_tab behind ≡ fields_at end behind = c.tab_at-end.ensures.fields in
    let emits = emits_found r at end c.requires c.tab_at-at.ensures.fields behind refl next in
    let group = take at r in
    let pushed : c.put.new.self ≡ c.args.out.now ++ (group, c.in_ok-member.member) ∷ [] = c.in_ok-put.ensures.ok in
    let member : c.in_ok-member.member ≡ (c.in-Some.score, c.in_ok-item.item) ∷ [] = c.in_ok-member.ensures in
    let score : c.in-Some.score ≡ digits_value (take end behind) = c.in-Some.ensures.1 in
    let item : c.in_ok-item.item ≡ take (length behind - (end + 1)) (drop (end + 1) behind) = c.in_ok-item.ensures in
    let rest : c.in_ok-item.item ≡ drop (end + 1) behind = item ∙ take_rest behind (end + 1) in
    let only : c.in_ok-member.member ≡ (digits_value (take end behind), drop (end + 1) behind) ∷ [] = member ∙ (λ i. (score i, rest i) ∷ []) in
    pushed
    ∙ ap (λ (ms : List (ℕ × List ℕ)). c.args.out.now ++ (group, ms) ∷ []) only
    ∙ ap (λ (ps : List (List ℕ × List (ℕ × List ℕ))). c.args.out.now ++ ps) (sym emits)
