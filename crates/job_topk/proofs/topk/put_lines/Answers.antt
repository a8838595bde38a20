use Rattle.std.proofs.Common.{◌≡◌, ◌≤◌, ◌<◌, ◌++◌, ◌∙◌, ℕ, List, ap, subst, get_or, length, arith}
use Rattle.std.proofs.lemmas.List.{take_all}
use Rattle.definitions.specs.Outside.{GainsPrefix}
use Rattle.job_laws.proofs.Gains.{piece_more, gains_next}
use Rattle.job_topk.specs.TopK.{member_text, topk_text}
use Rattle.job_topk.proofs.topk.put_lines.Goals as goal

pub returns-in-Err-clause-err : goal.returns-in-Err-clause-err
returns-in-Err-clause-err c =
    let group = c.args.group.now in
    let v = c.args.members.now in
    let i = c.members.member-index in
    let m = c.member-item.result in
    let is : m ≡ get_or v i m = c.member-item.is in
    let within : i < length v = grind arith in
    let mid = c.members.out.items in
    let new = c.put_member.new.out.items in
    gains_next (member_text group) v i m within c.args.out.now.items mid new c.members.invariant (subst (λ (x : ℕ × List ℕ). GainsPrefix (member_text group x) mid new) is c.in-Err.ensures.err)

pub members-preserved : goal.members-preserved
members-preserved c =
    let group = c.args.group.now in
    let v = c.args.members.now in
    let i = c.members.member-index in
    let m = c.member-item.result in
    let is : m ≡ get_or v i m = c.member-item.is in
    let within : i < length v = grind arith in
    c.in-Ok.ensures.ok
    ∙ ap (λ (x : ℕ × List ℕ). c.members.out.items ++ member_text group x) is
    ∙ ap (λ (l : List ℕ). l ++ member_text group (get_or v i m)) c.members.invariant
    ∙ piece_more (member_text group) v i m within c.args.out.now.items

pub returns-clause-ok : goal.returns-clause-ok
returns-clause-ok c =
    let v = c.args.members.now in
    let ended : length v ≤ c.members.member-index = grind arith in
    c.members.invariant ∙ ap (λ (l : List (ℕ × List ℕ)). c.args.out.now.items ++ topk_text c.args.group.now l) (take_all c.members.member-index v ended)
