use Rattle.strata.proofs.Mounts.{goes, stays}
use Rattle.strata.proofs.laws.statuses_tell_of_mounts.Goals as goal

pub returns-clause-there : goal.returns-clause-there
returns-clause-there g c = λ words n old new r other. stays g.row.A.Denot words old new n r other

pub returns-clause-taken_away : goal.returns-clause-taken_away
returns-clause-taken_away g c = λ words n old new s. goes g.row.A.Denot words old new n s
