use Rattle.std.proofs.Common.{sym, arith}
use Rattle.romfs_held.proofs.Runs.{byte_zero, byte_here}
use Rattle.romfs_held.proofs.blocks.byte_in.Goals as goal

pub returns-then-position-all : goal.returns-then-position-all
returns-then-position-all c = sym (byte_zero _ _ c.requires _ _ c.rank-position.ensures (λ l. absurd (omega arith)))

pub returns-then-all-position : goal.returns-then-all-position
returns-then-all-position c = sym (byte_zero _ _ c.requires _ _ c.rank-position.ensures (λ l. c.if-all-position.true))

pub returns : goal.returns
returns c = sym (byte_here _ _ c.requires _ _ (omega arith) c.if-all-position.false)
