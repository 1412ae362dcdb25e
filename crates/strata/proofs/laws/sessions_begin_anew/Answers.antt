use Rattle.strata.proofs.InTurn.{met_its_end, failed_to_read, failed_to_write}
use Rattle.strata.proofs.laws.sessions_begin_anew.Goals as goal

pub returns-clause-whole : goal.returns-clause-whole
returns-clause-whole g c = λ first by counted t done s. met_its_end counted t done s

pub returns-clause-read : goal.returns-clause-read
returns-clause-read g c = λ first by counted t s. failed_to_read counted t s

pub returns-clause-write : goal.returns-clause-write
returns-clause-write g c = λ first by counted t s. failed_to_write counted t s
