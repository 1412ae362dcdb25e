use Rattle.romfs_reader.specs.Walks.{places}
use Rattle.romfs_reader.proofs.Given.{IsOnWay}
use Rattle.romfs_reader.proofs.Hops.{count}
use Rattle.romfs_reader.proofs.parts.end_of.Given as goal

-- the walk from `head` along hard links has come to `end`
abbrev pub invariant-loop-end : goal.invariant-loop-end
invariant-loop-end l = IsOnWay l.image l.head l.end

-- the hard links that are still to be passed
abbrev pub decreases-loop-end : goal.decreases-loop-end
decreases-loop-end l = count l.image (places l.image) l.end.offset
