use Rattle.std.proofs.Common.{◌≡◌, length, drop}
use Rattle.romfs_sets.proofs.Rounds.{IsClearing}
use Rattle.romfs_sets.proofs.climb.clear.Given as goal

-- the points before this one are cleared; what was entered and noted is unchanged
abbrev pub invariant-loop-at : goal.invariant-loop-at
invariant-loop-at g l = record {
  clearing : IsClearing l.graph.class.items l.found.low.items (drop l.at-index l.cycle);
  low : length l.found.low.items ≡ length l.graph.next.items;
  entered : l.found.entered.items ≡ l.fn.found.entered.items;
  noted : l.found.noted.items ≡ l.fn.found.noted.items;
}
