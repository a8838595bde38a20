use Rattle.std.proofs.Common.{◌≢◌, take, All}
use Rattle.map_tasks.proofs.texts.Texts.walk.Given as goal

abbrev pub invariant-places : goal.invariant-places
invariant-places g l = All (λ r. r.1.input.text ≢ l.records) (take l.place l.self-inside.map.entries)
