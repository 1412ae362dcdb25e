use Rattle.std.proofs.Common.{length}
use Rattle.layer_tree.proofs.Stepping.{IsPassed}
use Rattle.layer_tree.proofs.laying.seek.Given as goal

-- the branches so far come before the name
abbrev pub invariant-loop-first : goal.invariant-loop-first
invariant-loop-first g l = IsPassed l.name l.branches l.rest

-- the branches that are left
abbrev pub decreases-loop-first : goal.decreases-loop-first
decreases-loop-first g l = length l.rest
