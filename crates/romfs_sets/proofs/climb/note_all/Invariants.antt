use Rattle.std.proofs.Common.{◌≡◌, ℕ, ◌<◌, true, false, length, get_or, []}
use Rattle.romfs_sets.specs.Climb.{IsFound, AreMarksKept, findings}
use Rattle.romfs_sets.proofs.climb.note_all.Given as goal

-- what has been found is right, all that was visited is entered, and so are all points before this
-- one
abbrev pub invariant-loop-from : goal.invariant-loop-from
invariant-loop-from g l = record {
  found : IsFound l.graph.next.items l.graph.class.items [] [] (findings l.found);
  walked : AreMarksKept l.visited l.found.entered.items;
  visited : length l.visited ≡ length l.graph.next.items;
  entered : length l.found.entered.items ≡ length l.graph.next.items;
  each : (x : ℕ) → x < l.from → get_or l.found.entered.items x false ≡ true;
}
