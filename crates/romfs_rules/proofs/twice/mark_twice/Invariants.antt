use Rattle.std.proofs.Common.{◌-◌, ◌*◌, ◌<◌, ◌≤◌, length}
use Rattle.romfs_format.specs.Fields.{root}
use Rattle.romfs_rules.proofs.Counted.{Tallied, Below}
use Rattle.romfs_rules.proofs.twice.mark_twice.Given as goal

-- the links below the next slot, which is after the root's, are tallied
abbrev pub invariant-loop-slot : goal.invariant-loop-slot
invariant-loop-slot g l = record {
  behind : root l.volume.bytes.now < l.from * 16;
  low : l.from ≤ length l.chains.headers;
  tallied : Tallied l.volume.bytes.now (Below l.volume.bytes.now l.from) l.once l.twice;
}

-- how many slots are left
abbrev pub decreases-loop-slot : goal.decreases-loop-slot
decreases-loop-slot g l = length l.chains.headers - l.from
