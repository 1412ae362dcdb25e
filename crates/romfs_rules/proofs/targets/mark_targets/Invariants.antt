use Rattle.std.proofs.Common.{◌-◌, ◌≤◌, length}
use Rattle.romfs_rules.proofs.Destined.{Reaches}
use Rattle.romfs_rules.proofs.targets.mark_targets.Given as goal

-- the members below the next slot that are hard links are followed
abbrev pub invariant-loop-slot : goal.invariant-loop-slot
invariant-loop-slot g l = record { low : l.from ≤ length l.chains.headers; reaches : Reaches l.volume.bytes.now l.from l.marks }

-- how many slots are left
abbrev pub decreases-loop-slot : goal.decreases-loop-slot
decreases-loop-slot g l = length l.chains.headers - l.from
