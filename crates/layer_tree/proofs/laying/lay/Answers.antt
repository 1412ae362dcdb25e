use Rattle.layer_tree.proofs.Joining.{tree_if_ok}
use Rattle.layer_tree.proofs.laying.lay.Goals as goal

pub returns : goal.returns
returns g c first ls hs l h = tree_if_ok first ls hs c.args.low c.args.high c.laid.result c.laid.ensures l h
