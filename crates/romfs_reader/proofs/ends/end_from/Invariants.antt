use Rattle.romfs_reader.specs.Walks.{places}
use Rattle.romfs_reader.proofs.Given.{IsOnWay}
use Rattle.romfs_reader.proofs.Hops.{count}
use Rattle.romfs_reader.proofs.ends.end_from.Given as goal

-- the walk from `head` along hard links has come to `at`
abbrev pub invariant-loop-at : goal.invariant-loop-at
invariant-loop-at g l = IsOnWay l.image l.head l.at

-- the hard links that are still to be passed
abbrev pub decreases-loop-at : goal.decreases-loop-at
decreases-loop-at g l = count l.image (places l.image) l.at.offset
