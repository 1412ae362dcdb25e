use Rattle.layer_paths.proofs.Cutting.{IsPlainFrom}
use Rattle.layer_paths.proofs.tree.is_plain.Given as goal

-- the names before this one are plain
abbrev pub invariant-loop-name : goal.invariant-loop-name
invariant-loop-name l = IsPlainFrom l.path l.name-index
