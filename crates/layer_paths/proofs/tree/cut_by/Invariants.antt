use Rattle.layer_paths.proofs.Cutting.{IsCutFrom}
use Rattle.layer_paths.proofs.tree.cut_by.Given as goal

-- no value above `here` cuts the path, and the names from this one on are left
abbrev pub invariant-loop-name : goal.invariant-loop-name
invariant-loop-name g l = IsCutFrom g.T.Cuts.removed l.fn.tree l.path l.name-index l.here
