use Rattle.romfs_sets.proofs.FilledSlots.{Fell}
use Rattle.romfs_sets.proofs.crowded.crowded.Given as goal

-- the slots say what fell of the keys before this one
abbrev pub invariant-loop-key : goal.invariant-loop-key
invariant-loop-key g l = Fell l.keys l.slots l.some l.crowded l.key-index
