use Rattle.window_manager.proofs.BalanceLaws.{shift_balances}
use Rattle.window_manager.proofs.laws.shift_balances.Goals as goal

pub returns : goal.returns
returns c = shift_balances
