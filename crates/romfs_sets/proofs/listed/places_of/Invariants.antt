use Rattle.std.proofs.Common.{◌-◌, ◌≤◌, length}
use Rattle.romfs_sets.specs.Listed.{AreCollected}
use Rattle.romfs_sets.proofs.listed.places_of.Given as goal

-- the places of the slots before `from` are collected
abbrev pub invariant-loop-slot : goal.invariant-loop-slot
invariant-loop-slot g l = record { low : l.from ≤ length l.set; collected : AreCollected l.set l.from l.places.items }

-- the slots from `from` on
abbrev pub decreases-loop-slot : goal.decreases-loop-slot
decreases-loop-slot g l = length l.set - l.from
