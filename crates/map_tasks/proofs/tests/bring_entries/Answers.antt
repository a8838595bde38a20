use Rattle.map_tasks.proofs.Totals.{comes-held}
use Rattle.map_tasks.proofs.tests.bring_entries.Goals as goal

pub sheet_of-requires-clause-held : goal.sheet_of-requires-clause-held
sheet_of-requires-clause-held g c = comes-held _ _ _ c.in-Ok.ensures.ok

pub sheet_of-requires-2-clause-held : goal.sheet_of-requires-2-clause-held
sheet_of-requires-2-clause-held g c = comes-held _ _ _ c.in-Ok.ensures.ok
