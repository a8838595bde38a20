use Rattle.map_tasks.proofs.tests.leave.Goals as goal

pub returns-clause-mapped : goal.returns-clause-mapped
returns-clause-mapped c = c.leave.ensures.mapped 2 3 c.requires.mapped
