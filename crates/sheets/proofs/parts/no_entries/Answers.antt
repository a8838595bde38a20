use Rattle.std.proofs.Common.{◌∙◌, [], ap, sym, subst, arith}
use Rattle.std.specs.Prelude.{replicate}
use Rattle.sheets.specs.Parts.{HasParts}
use Rattle.sheets.proofs.PartLaws.{no_parts}
use Rattle.sheets.proofs.parts.no_entries.Goals as goal

pub returns : goal.returns
returns g c = subst (HasParts c.args.parts []) (sym (c.parts.invariant ∙ ap (λ n. replicate n []) (omega arith))) (no_parts c.args.parts)
