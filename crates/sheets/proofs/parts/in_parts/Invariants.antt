use Rattle.sheets.specs.Parts.{HasParts}
use Rattle.sheets.proofs.parts.in_parts.Given as goal

abbrev pub invariant-entries : goal.invariant-entries
invariant-entries g l = HasParts l.parts l.yielded l.lists.items
