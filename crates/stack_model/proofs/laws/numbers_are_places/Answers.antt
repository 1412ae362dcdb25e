use Rattle.stack_model.proofs.Numbering.{root_first}
use Rattle.stack_model.proofs.laws.numbers_are_places.Goals as goal

pub returns-clause-root : goal.returns-clause-root
returns-clause-root c = root_first
