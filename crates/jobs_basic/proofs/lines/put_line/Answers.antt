use Rattle.std.proofs.Common.{◌≡◌, ◌++◌, ◌∷◌, [], ◌∙◌, ap, sym, append_assoc, arith}
use Rattle.std.proofs.lemmas.Result.{err_from_is_err_and}
use Rattle.job_laws.proofs.Gains.{gains_before}
use Rattle.jobs_basic.specs.Lines.{line_of}
use Rattle.jobs_basic.proofs.lines.put_line.Goals as goal

pub returns-in_err-extend_from_slice-2-clause-err : goal.returns-in_err-extend_from_slice-2-clause-err
returns-in_err-extend_from_slice-2-clause-err c =
    let p = err_from_is_err_and c.from_residual-in_err-extend_from_slice-2.result c.from_residual-in_err-extend_from_slice-2.ensures.1 in
    let key = c.args.key.now in
    let field' = c.args.field.now in
    let old = c.args.out.now.items in
    let stays : c.extend_from_slice-2.new.self.items ≡ c.push.new.self.items = grind arith in
    let tabbed : c.push.new.self.items ≡ c.extend_from_slice.new.self.items ++ 9 ∷ [] = grind arith in
    let keyed : c.extend_from_slice.new.self.items ≡ old ++ key = grind arith in
    rw p.1 (gains_before (key ++ 9 ∷ []) (field' ++ 10 ∷ []) (line_of key field') old c.extend_from_slice-2.new.self.items
    (sym (append_assoc key (9 ∷ []) (field' ++ 10 ∷ [])))
    (stays ∙ tabbed ∙ ap (λ l. l ++ 9 ∷ []) keyed ∙ append_assoc old key (9 ∷ [])))

pub returns-in_err-push-2-clause-err : goal.returns-in_err-push-2-clause-err
returns-in_err-push-2-clause-err c =
    let p = err_from_is_err_and c.from_residual-in_err-push-2.result c.from_residual-in_err-push-2.ensures.1 in
    let key = c.args.key.now in
    let field' = c.args.field.now in
    let old = c.args.out.now.items in
    let stays : c.push-2.new.self.items ≡ c.extend_from_slice-2.new.self.items = grind arith in
    let written : c.extend_from_slice-2.new.self.items ≡ c.push.new.self.items ++ field' = grind arith in
    let tabbed : c.push.new.self.items ≡ c.extend_from_slice.new.self.items ++ 9 ∷ [] = grind arith in
    let keyed : c.extend_from_slice.new.self.items ≡ old ++ key = grind arith in
    rw p.1 (gains_before (key ++ (9 ∷ field')) (10 ∷ []) (line_of key field') old c.push-2.new.self.items
    (sym (append_assoc key (9 ∷ field') (10 ∷ [])))
    (stays ∙ written ∙ ap (λ l. l ++ field') (tabbed ∙ ap (λ l. l ++ 9 ∷ []) keyed) ∙ ap (λ l. l ++ field') (append_assoc old key (9 ∷ [])) ∙ append_assoc old (key ++ 9 ∷ []) field' ∙ ap (λ l. old ++ l) (append_assoc key (9 ∷ []) field')))
