use Rattle.std.proofs.Common.{take}
use Rattle.node_reader.specs.Xattrs.{AreBare}
use Rattle.node_reader.proofs.xattrs.may_have_some.Given as goal

-- the layers so far are without lists
abbrev pub invariant-loop-lists : goal.invariant-loop-lists
invariant-loop-lists g l = AreBare (take l.lists-index l.layers)
