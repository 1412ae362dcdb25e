use Rattle.romfs_sets.proofs.SeenKeys.{Told}
use Rattle.romfs_sets.proofs.once.seen_once.Given as goal

-- it is known for the keys before this one
abbrev pub invariant-loop-key : goal.invariant-loop-key
invariant-loop-key g l = Told l.keys l.once.items l.key-index
