use Rattle.std.proofs.Common.{List, ℕ, Bor, sym, ap, ◌∙◌}
use Rattle.std.specs.Prelude.{Option}
use Rattle.record_text.specs.Fields.{fields_behind, no_field}
use Rattle.record_text.proofs.FieldLaws.{no_field-some}
use Rattle.record_text.proofs.fields.no_field.Goals as goal

pub returns-in-Some-clause-fields : goal.returns-in-Some-clause-fields
returns-in-Some-clause-fields c = sym (ap (λ (o : Option (Bor (List ℕ))). no_field (fields_behind o)) c.in-Some.is ∙ no_field-some c.in-Some.field-0.now)
