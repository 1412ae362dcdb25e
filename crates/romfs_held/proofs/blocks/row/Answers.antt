use Rattle.std.proofs.Common.{arith}
use Rattle.romfs_held.proofs.Runs.{dense_row}
use Rattle.romfs_held.proofs.blocks.row.Goals as goal

pub returns-then-blocks-last : goal.returns-then-blocks-last
returns-then-blocks-last c =
    dense_row _ c.requires.rises _ _ 17 c.if-last-blocks.true c.requires.is c.if-blocks-last.true (omega arith)
