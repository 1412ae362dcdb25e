use Rattle.layer_tree.proofs.Children.{child_entry}
use Rattle.layer_tree.proofs.laws.children_are_one_name_below.Goals as goal

pub returns : goal.returns
returns c t path children are name = child_entry t path children are name
