use Rattle.std.proofs.Common.{◌≡◌, ◌+◌, ◌*◌, length, get_or, drop, reverse}
use Rattle.romfs_sets.specs.Climb.{AreMarksKept, findings}
use Rattle.romfs_sets.proofs.Marks.{unmarked}
use Rattle.romfs_sets.proofs.Graphs.{points}
use Rattle.romfs_sets.proofs.Ascent.{IsUnderWay}
use Rattle.romfs_sets.proofs.climb.climb.Given as goal

-- a climb is under way to the point of this turn, and marks are kept
abbrev pub invariant-loop-found : goal.invariant-loop-found
invariant-loop-found g l = record {
  under_way : IsUnderWay (points l.graph) (reverse l.cycle) (drop (l.turn + 1) l.cycle) (get_or l.cycle l.turn 0) l.from
      (reverse l.steps.items) (findings l.found);
  kept : AreMarksKept l.fn.found.entered.items l.found.entered.items;
  low : length l.found.low.items ≡ length l.graph.next.items;
}

-- the points that are not entered, counted twice, and the steps
abbrev pub decreases-loop-found : goal.decreases-loop-found
decreases-loop-found g l = 2 * unmarked l.found.entered.items + length l.steps.items
