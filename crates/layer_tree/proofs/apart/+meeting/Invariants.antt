use Rattle.std.proofs.Common.{length, ◌+◌, ◌*◌}
use Rattle.layer_paths.specs.Rows.{spread}
use Rattle.layer_tree.proofs.Meeting.{IsMeeting}
use Rattle.layer_tree.proofs.apart.+meeting.Given as goal

-- the rows below both branches, three times, and two: fewer than those of their directories
abbrev pub decreases-is_apart : goal.decreases-is_apart
decreases-is_apart g l = 3 * (length l.low.now.below + length l.high.now.below) + 2

-- the rows of the branches of both, three times, and one
abbrev pub decreases-are_apart : goal.decreases-are_apart
decreases-are_apart g l = 3 * (length (spread l.lows.now) + length (spread l.highs.now)) + 1

-- the same, without the one
abbrev pub decreases-few_are_apart : goal.decreases-few_are_apart
decreases-few_are_apart g l = 3 * (length (spread l.few.now) + length (spread l.many.now))

-- the branches so far are apart from the others
abbrev pub invariant-few_are_apart-loop-one : goal.invariant-few_are_apart-loop-one
invariant-few_are_apart-loop-one g l = IsMeeting g.T.Cuts.removed l.fn.few l.left l.fn.many l.rest

-- the branches that are left
abbrev pub decreases-few_are_apart-loop-one : goal.decreases-few_are_apart-loop-one
decreases-few_are_apart-loop-one g l = length l.left
