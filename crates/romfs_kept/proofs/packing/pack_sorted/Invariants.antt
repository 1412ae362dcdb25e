use Rattle.romfs_kept.proofs.Joining.{Joined}
use Rattle.romfs_kept.proofs.packing.pack_sorted.Given as goal

-- the pieces so far are joined
abbrev pub invariant-loop-piece : goal.invariant-loop-piece
invariant-loop-piece g l = Joined l.pieces l.blocks.items l.bytes.items l.piece-index
