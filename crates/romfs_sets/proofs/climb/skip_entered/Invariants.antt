use Rattle.std.proofs.Common.{◌-◌, length}
use Rattle.romfs_sets.specs.Climb.{IsSkipped}
use Rattle.romfs_sets.proofs.climb.skip_entered.Given as goal

-- what was skipped is entered
abbrev pub invariant-loop-at : goal.invariant-loop-at
invariant-loop-at g l = IsSkipped l.graph.sibling.items l.entered l.from l.at

-- the points from `at` on
abbrev pub decreases-loop-at : goal.decreases-loop-at
decreases-loop-at g l = length l.graph.sibling.items - l.at
