use Rattle.std.proofs.Common.{◌∙◌, ◌+◌, Some, take, ap, arith}
use Rattle.record_text.proofs.AheadLaws.{rest_is}
use Rattle.program_words.specs.WellFormed.{Text}
use Rattle.program_words.proofs.ScanLaws.{equals_at, no_equals}
use Rattle.program_words.proofs.scan.name_and_value.Goals as goal

pub returns-in-Some : goal.returns-in-Some
returns-in-Some c =
    let text = c.args.text.now in let i = c.in-Some.i in let e = c.in-Some.ensures in
    ap (λ (rest : Text). (take i text, Some rest)) (rest_is (i + 1) text)
    ∙ equals_at text i e.0.high (λ k lt is. e.0.before k (omega arith) lt is) e.1

pub returns-in-None : goal.returns-in-None
returns-in-None c = no_equals c.args.text.now (λ k lt is. c.in-None.ensures k (omega arith) lt is)
