use Rattle.serve_core.proofs.Stacking.{stacked_forth, stacked_back}
use Rattle.serve_core.proofs.kept_laws.stacked_as_they_are.Goals as goal

pub returns-clause-forth : goal.returns-clause-forth
returns-clause-forth c = stacked_forth

pub returns-clause-back : goal.returns-clause-back
returns-clause-back c = stacked_back
