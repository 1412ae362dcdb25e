use Rattle.layer_tree.proofs.Parents.{in_directory}
use Rattle.layer_tree.proofs.laws.children_stand_in_directories.Goals as goal

pub returns : goal.returns
returns c first layers im t is path name e below = in_directory first layers im t is path name e below
