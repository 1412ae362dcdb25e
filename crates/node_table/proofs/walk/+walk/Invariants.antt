use Rattle.std.proofs.Common.{length}
use Rattle.node_table.specs.Walks.{walk_of}
use Rattle.node_table.proofs.Walking.{Walking}
use Rattle.node_table.proofs.walk.+walk.Given as goal

-- how many rows are below the branch: a child has fewer below it
abbrev pub decreases-walk : goal.decreases-walk
decreases-walk g l = length l.branch.now.below

-- the branch and its children so far are walked over
abbrev pub invariant-loop-child : goal.invariant-loop-child
invariant-loop-child g l = Walking l.branch l.fn.place l.child-items (walk_of l.fn.out) (walk_of l.out) l.child-index
