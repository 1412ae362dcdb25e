use Rattle.std.proofs.Common.{drop, reverse}
use Rattle.romfs_sets.specs.Climb.{IsFound, AreMarksKept, findings}
use Rattle.romfs_sets.proofs.climb.enter_all.Given as goal

-- only what leads to points from this turn on is still to be entered, and marks are kept
abbrev pub invariant-loop-turn : goal.invariant-loop-turn
invariant-loop-turn g l = record {
  found : IsFound l.graph.next.items l.graph.class.items (reverse l.cycle.items) (drop l.turn l.cycle.items)
      (findings l.found);
  kept : AreMarksKept l.initial.found.entered.items l.found.entered.items;
}
