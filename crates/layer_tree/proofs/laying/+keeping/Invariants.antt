use Rattle.std.proofs.Common.{length, ◌+◌, ◌*◌}
use Rattle.layer_paths.specs.Rows.{spread}
use Rattle.layer_tree.proofs.Stepping.{Keeping}
use Rattle.layer_tree.proofs.Picking.{Picking}
use Rattle.layer_tree.proofs.laying.+keeping.Given as goal

-- the rows of the marks, six times, and three
abbrev pub decreases-kept_below : goal.decreases-kept_below
decreases-kept_below g l = 6 * length (spread l.marks.now) + 3

-- the same, and two
abbrev pub decreases-kept_by_few : goal.decreases-kept_by_few
decreases-kept_by_few g l = 6 * length (spread l.marks.now) + 2

-- the rows below the mark, six times, and six: fewer than those of all marks beside it
abbrev pub decreases-keep_by_one : goal.decreases-keep_by_one
decreases-keep_by_one g l = 6 * length l.mark.now.below + 6

-- the same, and five
abbrev pub decreases-keep_inside : goal.decreases-keep_inside
decreases-keep_inside g l = 6 * length l.mark.now.below + 5

-- the same
abbrev pub decreases-keep_first : goal.decreases-keep_first
decreases-keep_first g l = 6 * length l.mark.now.below + 5

-- the same, and four: more than those of the marks below it
abbrev pub decreases-children_left : goal.decreases-children_left
decreases-children_left g l = 6 * length l.mark.now.below + 4

-- of the branches so far there is what their marks leave
abbrev pub invariant-kept_below-loop-low : goal.invariant-kept_below-loop-low
invariant-kept_below-loop-low g l = Keeping l.fn.lows.items l.lows.items l.kept.items l.fn.marks l.rest

-- the branches that are left
abbrev pub decreases-kept_below-loop-low : goal.decreases-kept_below-loop-low
decreases-kept_below-loop-low g l = length l.lows.items

-- of the branches there is what the marks after those that are left leave
abbrev pub invariant-kept_by_few-loop-mark : goal.invariant-kept_by_few-loop-mark
invariant-kept_by_few-loop-mark g l = Picking l.fn.lows.items l.lows.items l.marks l.left

-- the marks that are left
abbrev pub decreases-kept_by_few-loop-mark : goal.decreases-kept_by_few-loop-mark
decreases-kept_by_few-loop-mark g l = length l.left
