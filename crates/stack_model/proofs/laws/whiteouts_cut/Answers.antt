use Rattle.stack_model.proofs.Joined.{root_stays}
use Rattle.stack_model.proofs.laws.whiteouts_cut.Goals as goal

pub returns-clause-root : goal.returns-clause-root
returns-clause-root c = root_stays
