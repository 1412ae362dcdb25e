use Rattle.serve_core.proofs.Answered.{told_others, told_front}
use Rattle.serve_core.proofs.kept_laws.only_data_are_read.Goals as goal

pub returns-clause-others : goal.returns-clause-others
returns-clause-others c = told_others

pub returns-clause-reads : goal.returns-clause-reads
returns-clause-reads c = told_front
