use Rattle.std.proofs.Common.{length}
use Rattle.node_table.proofs.walk.+count_branches.Given as goal

-- how many rows are below the branch: a child has fewer below it
abbrev pub decreases-count_branches : goal.decreases-count_branches
decreases-count_branches g l = length l.branch.now.below
