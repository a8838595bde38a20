use Rattle.sheets.specs.United.{BestIs, best_key}
use Rattle.sheets.proofs.answer.least.Given as goal

abbrev pub invariant-rests : goal.invariant-rests
invariant-rests g l = BestIs l.rests l.i (best_key l.best)
