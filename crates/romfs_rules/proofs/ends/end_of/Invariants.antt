use Rattle.std.proofs.Common.{◌≡◌}
use Rattle.romfs_format.specs.Links.{IsTarget}
use Rattle.romfs_rules.proofs.EndWalk.{Going, Passing, unmarked}
use Rattle.romfs_rules.proofs.ends.end_of.Given as goal

-- the walk is at a target, over the same set, and has kept earlier marks
abbrev pub invariant-loop-walks : goal.invariant-loop-walks
invariant-loop-walks g l = record {
  target : IsTarget l.volume.bytes.now l.at;
  same : l.walks.slots ≡ l.initial.walks.slots;
  going : Going l.volume.bytes.now l.ends l.from l.at l.walks.by_slot;
  passing : Passing l.from l.at l.initial.walks.by_slot l.walks.by_slot;
}

-- how many slots no walk passed
abbrev pub decreases-loop-walks : goal.decreases-loop-walks
decreases-loop-walks g l = unmarked l.walks.by_slot
