use Rattle.pin_table.proofs.Covering.{covered-held}
use Rattle.pin_table.proofs.Answering.{releases, lets-go}
use Rattle.pin_table.proofs.covers.releases_balance.Goals as goal

pub returns-clause-held : goal.returns-clause-held
returns-clause-held c = covered-held

pub returns-clause-released : goal.returns-clause-released
returns-clause-released c = releases

pub returns-clause-worn : goal.returns-clause-worn
returns-clause-worn c = lets-go
