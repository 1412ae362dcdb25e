use Rattle.std.proofs.Common.{◌-◌, ◌*◌, ◌<◌, ◌≤◌, length}
use Rattle.romfs_format.specs.Fields.{root}
use Rattle.romfs_rules.specs.Judge.{KeepsBelow}
use Rattle.romfs_rules.proofs.judge.Sets.fault_inside.Given as goal

-- the headers below the next slot, which is after the root's, keep the rules
abbrev pub invariant-loop-slot : goal.invariant-loop-slot
invariant-loop-slot g l = record {
  behind : root l.self < l.from * 16;
  low : l.from ≤ length l.self-inside.chains.now.headers;
  keeps : KeepsBelow l.profile l.self (l.from * 16);
}

-- how many slots are left
abbrev pub decreases-loop-slot : goal.decreases-loop-slot
decreases-loop-slot g l = length l.self-inside.chains.now.headers - l.from
