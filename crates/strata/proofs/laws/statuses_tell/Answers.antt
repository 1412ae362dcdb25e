use Rattle.strata.proofs.Statuses.{ends_in_range, ends_for_words, ends_for_images}
use Rattle.strata.proofs.laws.statuses_tell.Goals as goal

pub returns-clause-range : goal.returns-clause-range
returns-clause-range g c = ends_in_range g.row.A.Denot

pub returns-clause-words : goal.returns-clause-words
returns-clause-words g c = ends_for_words g.row.A.Denot

pub returns-clause-images : goal.returns-clause-images
returns-clause-images g c = ends_for_images g.row.A.Denot
