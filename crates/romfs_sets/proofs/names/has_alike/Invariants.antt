use Rattle.romfs_sets.proofs.Classing.{AreUnlike}
use Rattle.romfs_sets.proofs.names.has_alike.Given as goal

-- of the names before this place none is that of the one before it
abbrev pub invariant-loop-at : goal.invariant-loop-at
invariant-loop-at l = AreUnlike l.named l.at
