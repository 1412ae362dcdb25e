use Rattle.std.proofs.Common.{◌-◌, length}
use Rattle.romfs_sets.proofs.Unions.{IsUnionBelow}
use Rattle.romfs_sets.proofs.slot_set.SlotSet.add_all.Given as goal

-- the other set's slots before `from` are added
abbrev pub invariant-loop-slot : goal.invariant-loop-slot
invariant-loop-slot g l = IsUnionBelow l.from l.initial.self l.other l.self

-- the slots from `from` on
abbrev pub decreases-loop-slot : goal.decreases-loop-slot
decreases-loop-slot g l = length l.other - l.from
