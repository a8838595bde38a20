use Rattle.std.proofs.Common.{◌≡◌, ◌++◌, ◌∷◌, [], ◌∙◌, ap, sym, append_assoc, arith}
use Rattle.std.proofs.lemmas.Result.{err_from_is_err_and}
use Rattle.job_laws.proofs.Gains.{gains_before, gains_within}
use Rattle.jobs_basic.specs.Index.{with_commas, index_text}
use Rattle.jobs_basic.proofs.index.put_line.Goals as goal

pub returns-in-Err-clause-err : goal.returns-in-Err-clause-err
returns-in-Err-clause-err c =
    let word = c.args.word.now in
    let field' = with_commas c.args.docs.now in
    let old = c.args.out.now.items in
    let tabbed : c.push.new.self.items ≡ c.extend_from_slice.new.self.items ++ 9 ∷ [] = grind arith in
    let keyed : c.extend_from_slice.new.self.items ≡ old ++ word = grind arith in
    gains_within (word ++ 9 ∷ []) field' (10 ∷ []) (index_text word c.args.docs.now) old c.push.new.self.items c.put_docs.new.out.items
    (sym (append_assoc word (9 ∷ []) (field' ++ 10 ∷ [])))
    (tabbed ∙ ap (λ l. l ++ 9 ∷ []) keyed ∙ append_assoc old word (9 ∷ []))
    c.in-Err.ensures.err

pub returns-in_err-push-2-clause-err : goal.returns-in_err-push-2-clause-err
returns-in_err-push-2-clause-err c =
    let p = err_from_is_err_and c.from_residual-in_err-push-2.result c.from_residual-in_err-push-2.ensures.1 in
    let word = c.args.word.now in
    let field' = with_commas c.args.docs.now in
    let old = c.args.out.now.items in
    let stays : c.push-2.new.self.items ≡ c.put_docs.new.out.items = grind arith in
    let tabbed : c.push.new.self.items ≡ c.extend_from_slice.new.self.items ++ 9 ∷ [] = grind arith in
    let keyed : c.extend_from_slice.new.self.items ≡ old ++ word = grind arith in
    rw p.1 (gains_before (word ++ (9 ∷ field')) (10 ∷ []) (index_text word c.args.docs.now) old c.push-2.new.self.items
    (sym (append_assoc word (9 ∷ field') (10 ∷ [])))
    (stays ∙ c.in-Ok.ensures.ok ∙ ap (λ l. l ++ field') (tabbed ∙ ap (λ l. l ++ 9 ∷ []) keyed) ∙ ap (λ l. l ++ field') (append_assoc old word (9 ∷ [])) ∙ append_assoc old (word ++ 9 ∷ []) field' ∙ ap (λ l. old ++ l) (append_assoc word (9 ∷ []) field')))
