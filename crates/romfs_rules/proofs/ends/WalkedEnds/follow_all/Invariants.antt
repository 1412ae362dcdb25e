use Rattle.std.proofs.Common.{◌≡◌, ◌-◌, ◌≤◌, length}
use Rattle.romfs_rules.proofs.EndWalk.{Found}
use Rattle.romfs_rules.proofs.ends.WalkedEnds.follow_all.Given as goal

-- the walks of all slots before the next one are found, by the set of targets
abbrev pub invariant-loop-slot : goal.invariant-loop-slot
invariant-loop-slot g l = record {
  low : l.from ≤ length l.targets;
  same : l.self.walks.slots ≡ l.targets;
  found : Found l.volume.bytes.now l.self.walks.by_slot l.self.ends.items l.from;
}

-- how many slots are left
abbrev pub decreases-loop-slot : goal.decreases-loop-slot
decreases-loop-slot g l = length l.targets - l.from
