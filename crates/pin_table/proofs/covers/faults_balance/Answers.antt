use Rattle.pin_table.proofs.Answering.{faults, sweeps}
use Rattle.pin_table.proofs.covers.faults_balance.Goals as goal

pub returns-clause-fault : goal.returns-clause-fault
returns-clause-fault c = faults

pub returns-clause-swept : goal.returns-clause-swept
returns-clause-swept c = sweeps
