use Rattle.layer_tree.proofs.Agreeing.{same_entries, same_cuts}
use Rattle.layer_tree.proofs.Children.{same_children}
use Rattle.layer_tree.proofs.laws.one_tree.Goals as goal

pub returns-clause-entries : goal.returns-clause-entries
returns-clause-entries c first layers s t is it path = same_entries first layers s t is it path

pub returns-clause-cuts : goal.returns-clause-cuts
returns-clause-cuts c first layers s t is it path = same_cuts first layers s t is it path

pub returns-clause-children : goal.returns-clause-children
returns-clause-children c first layers s t is it path cs ds p q = same_children first layers s t is it path cs ds p q
