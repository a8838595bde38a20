use Rattle.map_tasks.proofs.tests.revert.Goals as goal

pub returns-clause-mapped : goal.returns-clause-mapped
returns-clause-mapped g c = c.revert.ensures.mapped 2 3 c.requires.mapped
