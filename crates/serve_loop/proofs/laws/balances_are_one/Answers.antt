use Rattle.serve_loop.proofs.Balanced.{one_balances}
use Rattle.serve_loop.proofs.laws.balances_are_one.Goals as goal

pub returns : goal.returns
returns c = one_balances
