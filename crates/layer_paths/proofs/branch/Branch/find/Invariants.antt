use Rattle.layer_paths.specs.Rows.{whole}
use Rattle.layer_paths.proofs.Under.{IsDown}
use Rattle.layer_paths.proofs.branch.Branch.find.Given as goal

-- the walk has come down the names before this one, to `here`
abbrev pub invariant-loop-name : goal.invariant-loop-name
invariant-loop-name g l = IsDown (whole l.fn.self) l.path l.name-index l.here
