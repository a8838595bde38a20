use Rattle.job_laws.proofs.FirstTab.{IsFreeUpTo}
use Rattle.job_laws.proofs.fields.tab_at.Given as goal

abbrev pub invariant-bytes : goal.invariant-bytes
invariant-bytes l = IsFreeUpTo l.i l.r
