use Rattle.std.proofs.Common.{◌≡◌, ◌<◌, List, Bool, false, length, get_or}
use Rattle.romfs_sets.specs.Climb.{AreMarksKept, IsClosed, IsFreshWalk}
use Rattle.romfs_sets.proofs.Marks.{unmarked}
use Rattle.romfs_sets.proofs.climb.seek.Given as goal

-- over whatever was entered before, a fresh walk has come to `at`
abbrev pub invariant-loop-visited : goal.invariant-loop-visited
invariant-loop-visited l = record {
  inside : l.at < length l.next;
  walk : (entered : List Bool) → IsClosed l.next entered → AreMarksKept l.initial.visited entered
      → get_or entered l.from false ≡ false → IsFreshWalk l.next entered l.visited l.from l.at;
}

-- the points that the walk has not left
abbrev pub decreases-loop-visited : goal.decreases-loop-visited
decreases-loop-visited l = unmarked l.visited
