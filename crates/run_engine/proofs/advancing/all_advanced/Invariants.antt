use Rattle.std.proofs.Common.{◌≡◌, false, All, take}
use Rattle.run_engine.proofs.advancing.all_advanced.Given as goal

abbrev pub invariant-parts : goal.invariant-parts
invariant-parts g l = All (λ s. s.failed ≡ false) (take l.i l.parts.items)
