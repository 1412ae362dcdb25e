use Rattle.romfs_kept.specs.Pieces.{HasRow}
use Rattle.romfs_kept.proofs.pieces.add_row.Given as goal

-- the blocks so far were added
abbrev pub invariant-loop-i : goal.invariant-loop-i
invariant-loop-i g l = HasRow l.initial.pieces.items l.first l.bytes l.i l.pieces.items
