use Rattle.std.proofs.Common.{refl}
use Rattle.strata.proofs.InTurn.{first_told, none_stopped, sessions_tell, tells}
use Rattle.strata.proofs.laws.sessions_tell.Goals as goal

pub returns-clause-faults : goal.returns-clause-faults
returns-clause-faults g c = λ first by count fault clients a. tells count _ fault refl a

pub returns-clause-statuses : goal.returns-clause-statuses
returns-clause-statuses g c = sessions_tell g.row.A.Denot

pub returns-clause-stopped : goal.returns-clause-stopped
returns-clause-stopped g c = λ first by served fault e. first_told served fault e

pub returns-clause-whole : goal.returns-clause-whole
returns-clause-whole g c = λ first by served e. none_stopped 1 served e
