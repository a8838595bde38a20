use Rattle.std.proofs.Common.{◌≡◌, ℕ, List, ◌++◌, [], ◌∙◌, ap, subst, sym, refl, append_assoc, append-nil, arith}
use Rattle.definitions.specs.Outside.{GainsPrefix}
use Rattle.job_laws.proofs.Gains.{gains_within}
use Rattle.job_topk.specs.TopK.{score_text, item_text, member_text}
use Rattle.job_topk.proofs.topk.put_member.Goals as goal

pub returns-in-Err-clause-err : goal.returns-in-Err-clause-err
returns-in-Err-clause-err c =
    let group = c.args.group.now in
    let m = c.args.member.now in
    let old = c.args.out.now.items in
    let grouped : c.extend_from_slice.new.self.items ≡ old ++ group = grind arith in
    gains_within group (score_text m.0) (item_text m.1) (member_text group m) old c.extend_from_slice.new.self.items c.put_score.new.out.items refl grouped c.in-Err.ensures.err

pub returns-in-Err-put_item-clause-err : goal.returns-in-Err-put_item-clause-err
returns-in-Err-put_item-clause-err c =
    let group = c.args.group.now in
    let m = c.args.member.now in
    let old = c.args.out.now.items in
    let grouped : c.extend_from_slice.new.self.items ≡ old ++ group = grind arith in
    gains_within (group ++ score_text m.0) (item_text m.1) [] (member_text group m) old c.put_score.new.out.items c.put_item.new.out.items
    (sym (append_assoc group (score_text m.0) (item_text m.1 ++ []) ∙ ap (λ l. group ++ (score_text m.0 ++ l)) (append-nil (item_text m.1))))
    (c.in-Ok.ensures.ok ∙ ap (λ l. l ++ score_text m.0) grouped ∙ append_assoc old group (score_text m.0))
    (subst (λ (l : List ℕ). GainsPrefix (item_text l) c.put_score.new.out.items c.put_item.new.out.items) c.bytes.ensures.value c.in-Err-put_item.ensures.err)
