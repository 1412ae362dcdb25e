use Rattle.strata.proofs.OverFiles.{of_files, served_shown, good_of_files, told_of_files}
use Rattle.strata.proofs.laws.lines_are_served_as_over_their_files.Goals as goal

pub returns-clause-good : goal.returns-clause-good
returns-clause-good c = good_of_files

pub returns-clause-told : goal.returns-clause-told
returns-clause-told c = told_of_files

pub returns-clause-gathered : goal.returns-clause-gathered
returns-clause-gathered c = of_files

pub returns-clause-shown : goal.returns-clause-shown
returns-clause-shown c = served_shown
