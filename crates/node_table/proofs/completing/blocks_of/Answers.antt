use Rattle.std.proofs.lemmas.Grind.{common_steps}
use Rattle.std.proofs.Common.{arith}
use Rattle.node_table.proofs.Completed.{sums_nothing}
use Rattle.node_table.proofs.completing.blocks_of.Goals as goal

pub loop-image-init : goal.loop-image-init
loop-image-init c = sums_nothing c.args.images.now

pub from-requires : goal.from-requires
from-requires c = tt

pub offset_bounds-images-image-index : goal.offset_bounds-images-image-index
offset_bounds-images-image-index c = omega arith

pub bounds-images-image-index : goal.bounds-images-image-index
bounds-images-image-index c = omega arith

pub overflow_add-blocks : goal.overflow_add-blocks
overflow_add-blocks c = omega arith

pub overflow_add-blocks-in-loop-image : goal.overflow_add-blocks-in-loop-image
overflow_add-blocks-in-loop-image c = omega arith

pub loop-image-smaller : goal.loop-image-smaller
loop-image-smaller c = omega arith

pub full-requires : goal.full-requires
full-requires c = tt

pub loop-image-preserved : goal.loop-image-preserved
loop-image-preserved c = grind (arith, common_steps)

pub returns-clause-blocks : goal.returns-clause-blocks
returns-clause-blocks c = grind (arith, common_steps)

pub returns-clause-sound : goal.returns-clause-sound
returns-clause-sound c = grind (arith, common_steps)
