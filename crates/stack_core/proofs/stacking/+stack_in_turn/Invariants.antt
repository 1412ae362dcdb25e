use Rattle.std.proofs.Common.{length}
use Rattle.stack_core.proofs.stacking.+stack_in_turn.Given as goal

-- the layers of the run
abbrev pub decreases-stack_in_turn : goal.decreases-stack_in_turn
decreases-stack_in_turn g l = length l.images.now
