use Rattle.std.proofs.Common.{◌≡◌, ◌+◌, ℕ, List, ◌∷◌, take, drop, get_or, sym, ap, ◌∙◌, arith, suc}
use Rattle.record_text.specs.Fields.{fields_of}
use Rattle.record_text.proofs.AheadLaws.{same_true, true_same, rest_is}
use Rattle.record_text.proofs.FieldLaws.{fields_of-space, fields_of-none}
use Rattle.record_text.proofs.fields.split_field.Goals as goal

pub returns-in-Some : goal.returns-in-Some
returns-in-Some c =
    let line = c.args.line.now in let i = c.in-Some.i in let e = c.in-Some.ensures in
    let next : suc i ≡ i + 1 = omega arith in
    fields_of-space line i e.0.high (λ k lt is. e.0.before k (omega arith) lt (same_true (get_or line k 0) 32 is)) (true_same (get_or line i 0) 32 e.1)
    ∙ ap (λ (l : List ℕ). take i line ∷ fields_of l) (ap (λ (k : ℕ). drop k line) next ∙ sym (rest_is (i + 1) line))

pub returns-in-None : goal.returns-in-None
returns-in-None c =
    let line = c.args.line.now in
    fields_of-none line (λ k lt is. c.in-None.ensures k (omega arith) lt (same_true (get_or line k 0) 32 is))
