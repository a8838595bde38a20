use Rattle.std.proofs.Common.{subst}
use Rattle.pin_table.specs.Known.{CallerFits}
use Rattle.pin_table.proofs.Turns.{fits-passes}
use Rattle.pin_table.proofs.caller.Caller.number.Goals as goal

pub returns-clause-fits : goal.returns-clause-fits
returns-clause-fits g c = subst CallerFits c.self.view_is (fits-passes c.self.inside.number c.self.inside.passes.items c.self.invariant)
