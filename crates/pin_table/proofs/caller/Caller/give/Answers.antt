use Rattle.std.proofs.Common.{subst}
use Rattle.pin_table.specs.Views.{CallerView}
use Rattle.pin_table.specs.Closing.{GivesOne}
use Rattle.pin_table.proofs.Turns.{caller_of_passes}
use Rattle.pin_table.proofs.Giving.{gives-one}
use Rattle.pin_table.proofs.caller.Caller.give.Goals as goal

pub returns : goal.returns
returns g c = subst (λ (v : CallerView). GivesOne v (caller_of_passes c.self.inside.number c.pop.new.self.items) c.in-Some.pass) c.self.view_is (gives-one c.self.inside.number c.self.inside.passes.items c.pop.new.self.items c.in-Some.pass c.in-Some.ensures.items c.self.invariant)
