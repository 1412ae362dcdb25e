use Rattle.node_table.proofs.Completed.{Summing}
use Rattle.node_table.proofs.completing.blocks_of.Given as goal

-- the images so far are summed, and are sound
abbrev pub invariant-loop-image : goal.invariant-loop-image
invariant-loop-image l = Summing l.images l.blocks l.image-index
