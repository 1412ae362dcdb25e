use Rattle.std.proofs.Common.{◌*◌, ◌+◌, length}
use Rattle.stack_core.proofs.stacking.+halves.Given as goal

-- the layers of the run, counted twice
abbrev pub decreases-stack_from : goal.decreases-stack_from
decreases-stack_from g l = 2 * length l.images.now

-- the layers of the upper half, counted twice, and one more
abbrev pub decreases-join+arg2 : goal.decreases-join+arg2
decreases-join+arg2 g l = 2 * length l.highs.now + 1

-- the layers of the lower half, counted twice, and one more
abbrev pub decreases-join+arg3 : goal.decreases-join+arg3
decreases-join+arg3 g l = 2 * length l.lows.now + 1
