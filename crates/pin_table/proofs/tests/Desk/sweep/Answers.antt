use Rattle.pin_table.specs.Covers.{names_of}
use Rattle.pin_table.proofs.Covering.{covered-same}
use Rattle.pin_table.proofs.Answering.{sweeps, faults}
use Rattle.pin_table.proofs.tests.Desk.sweep.Goals as goal

pub returns-in-Ok-clause-covered : goal.returns-in-Ok-clause-covered
returns-in-Ok-clause-covered g c =
    let d = g.R.Recipe.digest_of in
    covered-same c.args.self.now.caller c.sweep.new.caller (names_of d c.args.self.now.pins.items) c.requires.covered (sweeps c.args.shard c.args.horizon c.in-Ok.dropped c.args.self.now.caller c.sweep.new.caller (names_of d c.args.self.now.pins.items) c.number.ensures.fits c.in-Ok.ensures.swept)

pub returns-in-Err-clause-covered : goal.returns-in-Err-clause-covered
returns-in-Err-clause-covered g c =
    let d = g.R.Recipe.digest_of in
    covered-same c.args.self.now.caller c.sweep.new.caller (names_of d c.args.self.now.pins.items) c.requires.covered (faults c.in-Err.fault c.args.shard c.args.self.now.caller c.sweep.new.caller (names_of d c.args.self.now.pins.items) c.in-Err.ensures.fault)
