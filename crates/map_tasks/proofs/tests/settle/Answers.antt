use Rattle.map_tasks.proofs.tests.settle.Goals as goal

pub returns-clause-mapped : goal.returns-clause-mapped
returns-clause-mapped g c = c.settle.ensures.mapped 2 3 c.requires.mapped
