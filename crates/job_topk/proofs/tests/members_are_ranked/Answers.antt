use Rattle.job_topk.proofs.tests.members_are_ranked.Goals as goal

pub join-requires-clause-left : goal.join-requires-clause-left
join-requires-clause-left g c = c.in_ok-ab.ensures c.in-Some-Some.four
