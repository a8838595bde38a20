use Rattle.std.proofs.Common.{◌≡◌, All, List, ℕ, sym, ap, ◌∙◌, subst, IfOk}
use Rattle.std.specs.Prelude.{Option}
use Rattle.std.proofs.lemmas.List.Elements.{All-tail}
use Rattle.record_text.specs.Fields.{IsField, fields_behind}
use Rattle.record_text.specs.Table.{asked, row_at, row_of}
use Rattle.record_text.specs.declared.table.Asked.{Asked}
use Rattle.record_text.specs.declared.words.Word.{Word}
use Rattle.record_text.proofs.FieldLaws.{asked-is, fields_plain}
use Rattle.record_text.proofs.table.ask.Goals as goal

pub ask_row-requires : goal.ask_row-requires
ask_row-requires c =
    let line = c.args.line.now in
    All-tail IsField c.split_field.result.0.now (fields_behind c.split_field.result.1) (subst (λ (l : List (List ℕ)). All IsField l) c.split_field.ensures (fields_plain line c.requires))

pub returns-in-Some-clause-asked : goal.returns-in-Some-clause-asked
returns-in-Some-clause-asked c =
    let line = c.args.line.now in let word = c.split_field.result.0.now in let fields = fields_behind c.split_field.result.1 in
    let is : asked line ≡ row_of c.in-Some.word fields = asked-is line word fields c.split_field.ensures ∙ ap (λ (o : Option Word). row_at o fields) (sym c.word_of.ensures ∙ c.in-Some.is) in
    subst (λ (x : Asked). IfOk c.ask_row.result (λ a. a ≡ x)) (sym is) c.ask_row.ensures.row

pub returns-in-None-clause-asked : goal.returns-in-None-clause-asked
returns-in-None-clause-asked c =
    let line = c.args.line.now in let word = c.split_field.result.0.now in let fields = fields_behind c.split_field.result.1 in
    sym (asked-is line word fields c.split_field.ensures ∙ ap (λ (o : Option Word). row_at o fields) (sym c.word_of.ensures ∙ c.in-None.is))
