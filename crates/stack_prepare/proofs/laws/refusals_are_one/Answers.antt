use Rattle.stack_prepare.proofs.Refusals.{good_are_taken}
use Rattle.stack_prepare.proofs.laws.refusals_are_one.Goals as goal

pub returns-clause-good : goal.returns-clause-good
returns-clause-good c = good_are_taken
