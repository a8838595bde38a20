use Rattle.std.proofs.Common.{◌≡◌, List, ℕ, Bor, ◌∷◌, length, sym, ap, ◌∙◌}
use Rattle.std.specs.Prelude.{Option}
use Rattle.record_text.specs.Fields.{fields_of, fields_behind}
use Rattle.record_text.proofs.FieldLaws.{one_more}
use Rattle.record_text.proofs.fields.one_field.Goals as goal

pub returns-in-Some-more : goal.returns-in-Some-more
returns-in-Some-more c =
    let field = c.split_field.result.0.now in let more = c.in-Some-more.field-0.now in
    let is : fields_behind c.args.rest ≡ field ∷ fields_of more = ap (λ (o : Option (Bor (List ℕ))). fields_behind o) c.in-Some.is ∙ c.split_field.ensures ∙ ap (λ (o : Option (Bor (List ℕ))). field ∷ fields_behind o) c.in-Some-more.is in
    λ one. one_more field more (ap (λ (l : List (List ℕ)). length l) (sym is) ∙ one)
