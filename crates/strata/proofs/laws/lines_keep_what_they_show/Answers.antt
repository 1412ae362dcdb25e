use Rattle.strata.proofs.OverFiles.{told_others}
use Rattle.strata.proofs.laws.lines_keep_what_they_show.Goals as goal

pub returns : goal.returns
returns c = told_others
