use Rattle.strata.proofs.Reported.{blamed, checked, listed_by}
use Rattle.strata.proofs.laws.reports_are_of_shown_images.Goals as goal

pub returns-clause-checked : goal.returns-clause-checked
returns-clause-checked g c = λ line kept images read shown. checked line kept images read shown g.row.A.Denot

pub returns-clause-listed : goal.returns-clause-listed
returns-clause-listed g c = λ line kept images read shown. listed_by line kept images read shown g.row.A.Denot

pub returns-clause-blamed : goal.returns-clause-blamed
returns-clause-blamed g c = blamed
