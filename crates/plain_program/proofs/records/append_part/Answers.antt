use Rattle.std.proofs.Common.{◌++◌, ◌∷◌, ◌-◌, List, ℕ, [], take, drop, get_or, sym, ap, ◌∙◌, append_assoc, arith}
use Rattle.marker_chunker.proofs.Parts.{part_more}
use Rattle.plain_program.proofs.records.append_part.Goals as goal

pub records-preserved : goal.records-preserved
records-preserved c =
    let from = c.args.from in let i = c.records.i in let records = c.args.records.now in
    let before = c.args.into.now in let done = take (i - from) (drop from records) in
    c.in-Ok.ensures.ok
    ∙ ap (λ (l : List (List ℕ)). l ++ c.get.result.now ∷ []) c.records.invariant
    ∙ ap (λ (r : List ℕ). (before ++ done) ++ r ∷ []) c.get.ensures.value
    ∙ append_assoc before done (get_or records i [] ∷ [])
    ∙ ap (λ (l : List (List ℕ)). before ++ l) (sym (part_more records from i (omega (arith, c.records.auto.i)) (omega (arith, c.records-test.true, c.requires.1))))
