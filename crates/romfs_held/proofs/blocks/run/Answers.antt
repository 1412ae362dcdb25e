use Rattle.std.proofs.Common.{arith}
use Rattle.romfs_held.proofs.Runs.{no_run, run_is}
use Rattle.romfs_held.proofs.blocks.run.Goals as goal

pub returns-then-position-all : goal.returns-then-position-all
returns-then-position-all c = no_run _ _ c.requires _ _ c.rank-position.ensures (λ l. absurd (omega arith))

pub returns-then-all-position : goal.returns-then-all-position
returns-then-all-position c = no_run _ _ c.requires _ _ c.rank-position.ensures (λ l. c.if-all-position.true)

pub returns : goal.returns
returns c = run_is _ _ c.requires _ _ _ _ c.row-count.ensures (omega arith)
