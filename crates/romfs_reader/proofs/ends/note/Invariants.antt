use Rattle.romfs_reader.specs.Walks.{places}
use Rattle.romfs_reader.proofs.Hops.{count}
use Rattle.romfs_reader.proofs.Noting.{IsNoting}
use Rattle.romfs_reader.proofs.ends.note.Given as goal

-- the walk has come to `at`, from which hard links end at `end`, and what is known is true
abbrev pub invariant-loop-known : goal.invariant-loop-known
invariant-loop-known g l = IsNoting l.image l.head l.at l.end l.known

-- the hard links that are still to be passed
abbrev pub decreases-loop-known : goal.decreases-loop-known
decreases-loop-known g l = count l.image (places l.image) l.at.offset
