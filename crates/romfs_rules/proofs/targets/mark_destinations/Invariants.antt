use Rattle.romfs_rules.proofs.Destined.{Walks}
use Rattle.romfs_sets.proofs.Marks.{unmarked}
use Rattle.romfs_rules.proofs.targets.mark_destinations.Given as goal

-- the walk along the destinations of a header is here, with these marks
abbrev pub invariant-loop-at : goal.invariant-loop-at
invariant-loop-at g l = Walks l.volume.bytes.now l.from l.at l.initial.marks l.marks

-- how many slots have no mark
abbrev pub decreases-loop-at : goal.decreases-loop-at
decreases-loop-at g l = unmarked l.marks
