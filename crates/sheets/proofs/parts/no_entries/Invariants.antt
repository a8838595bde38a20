use Rattle.std.proofs.Common.{◌≡◌, []}
use Rattle.std.specs.Prelude.{replicate}
use Rattle.sheets.proofs.parts.no_entries.Given as goal

abbrev pub invariant-parts : goal.invariant-parts
invariant-parts g l = l.lists.items ≡ replicate l.counter []
