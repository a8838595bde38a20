use Rattle.std.proofs.Common.{◌≡◌, [], ◌∙◌}
use Rattle.pin_table.proofs.tests.pins_are_given_up_for_good.Goals as goal

pub sweep-requires-clause-of : goal.sweep-requires-clause-of
sweep-requires-clause-of g c = (c.give_up_all.ensures []).later.locks ∙ c.look.ensures.of
