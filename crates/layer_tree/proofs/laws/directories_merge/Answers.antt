use Rattle.layer_tree.proofs.Directories.{kept_above, kept_below}
use Rattle.layer_tree.proofs.laws.directories_merge.Goals as goal

pub returns-clause-upper : goal.returns-clause-upper
returns-clause-upper c low high path h p has = kept_above low high path h p has

pub returns-clause-lower : goal.returns-clause-lower
returns-clause-lower c low high path h p has out u = kept_below low high path h p has out u
