use Rattle.std.proofs.Common.{arith}
use Rattle.romfs_held.proofs.Runs.{block_is}
use Rattle.romfs_held.proofs.blocks.rest_of_block.Goals as goal

pub returns : goal.returns
returns c = block_is _ _ c.requires _ _ _ (omega arith) c.if-all-position.false (omega arith)
