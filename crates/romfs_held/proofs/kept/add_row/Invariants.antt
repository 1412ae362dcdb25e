use Rattle.romfs_held.specs.Blocks.{HasNumbers}
use Rattle.romfs_held.proofs.kept.add_row.Given as goal

-- the numbers so far follow the old ones
abbrev pub invariant-loop-number : goal.invariant-loop-number
invariant-loop-number g l = HasNumbers l.initial.blocks.items l.first l.number l.blocks.items
