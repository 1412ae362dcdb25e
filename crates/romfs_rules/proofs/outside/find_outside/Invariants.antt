use Rattle.std.proofs.Common.{◌-◌, ◌*◌, ◌<◌, ◌≤◌, length}
use Rattle.romfs_format.specs.Fields.{root}
use Rattle.romfs_rules.specs.Outside.{IsBeforeRoot, IsPastEnd}
use Rattle.romfs_rules.proofs.Reach.{IsFoundBefore}
use Rattle.romfs_rules.proofs.outside.find_outside.Given as goal

-- the least on each side of what headers below the next slot, after the root's, lead to is found
abbrev pub invariant-loop-slot : goal.invariant-loop-slot
invariant-loop-slot g l = record {
  behind : root l.fn.volume.bytes.now < l.from * 16;
  low : l.from ≤ length l.chains.headers;
  below : IsFoundBefore l.fn.volume.bytes.now (IsBeforeRoot l.fn.volume.bytes.now) l.from l.found.below;
  above : IsFoundBefore l.fn.volume.bytes.now (IsPastEnd l.fn.volume.bytes.now) l.from l.found.above;
}

-- how many slots are left
abbrev pub decreases-loop-slot : goal.decreases-loop-slot
decreases-loop-slot g l = length l.chains.headers - l.from
