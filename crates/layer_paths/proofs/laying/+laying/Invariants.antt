use Rattle.std.proofs.Common.{length, ◌+◌, ◌*◌}
use Rattle.layer_paths.specs.Rows.{spread}
use Rattle.layer_paths.proofs.Merging.{Merging}
use Rattle.layer_paths.proofs.laying.+laying.Given as goal

-- the rows of all branches that are left of both directories, counted twice
abbrev pub decreases-cover_first : goal.decreases-cover_first
decreases-cover_first g l = 2 * (length (spread l.lows.now.items) + length (spread l.highs.now.items))

-- of two directories: the rows of both, counted twice
abbrev pub decreases-merge : goal.decreases-merge
decreases-merge g l = 2 * (length (spread l.lows.items) + length (spread l.highs.items)) + 1

-- the directories are merged up to the branches that are left
abbrev pub invariant-merge-loop-low : goal.invariant-merge-loop-low
invariant-merge-loop-low g l = Merging g.T.Lay.laid l.fn.lows.items l.fn.highs.items l.lows.items l.highs.items l.out.items

-- the branches that are left
abbrev pub decreases-merge-loop-low : goal.decreases-merge-loop-low
decreases-merge-loop-low g l = length l.lows.items + length l.highs.items
