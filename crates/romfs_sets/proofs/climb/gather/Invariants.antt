use Rattle.std.proofs.Common.{◌≡◌, ◌<◌, length, reverse}
use Rattle.romfs_sets.specs.Climb.{findings}
use Rattle.romfs_sets.proofs.Marks.{unmarked}
use Rattle.romfs_sets.proofs.Rounds.{IsRounding}
use Rattle.romfs_sets.proofs.climb.gather.Given as goal

-- the entering of the cycle has come to `at`
abbrev pub invariant-loop-found : goal.invariant-loop-found
invariant-loop-found g l = record {
  rounding : IsRounding l.graph.next.items l.graph.class.items l.fn.found.entered.items l.from l.at (reverse l.cycle.items)
      (findings l.found);
  inside : l.at < length l.graph.next.items;
  low : length l.found.low.items ≡ length l.graph.next.items;
}

-- the points that are not entered
abbrev pub decreases-loop-found : goal.decreases-loop-found
decreases-loop-found g l = unmarked l.found.entered.items
