use Rattle.std.proofs.Common.{◌≡◌, ◌+◌, ◌/◌, ℕ, not, length}
use Rattle.std.specs.List.{Contains, count_by}
use Rattle.romfs_kept.specs.Walk.{is_noted, IsUnderWay}
use Rattle.romfs_kept.proofs.Walks.{IsPlace}
use Rattle.romfs_kept.proofs.gathering.walk.Given as goal

-- the walk is under way, and only places wait
abbrev pub invariant-loop-at : goal.invariant-loop-at
invariant-loop-at g l = record {
  same : l.reader ≡ l.initial.reader;
  walk : IsUnderWay g.S.Contents.source l.reader l.root l.pieces.items l.todo.items (is_noted l.size l.noted);
  sized : length l.noted ≡ l.size / 16 + 1;
  waiting : (h : ℕ) → Contains l.todo.items h → IsPlace h;
}

-- the places that may still be noted, and those that wait
abbrev pub decreases-loop-at : goal.decreases-loop-at
decreases-loop-at g l = count_by not l.noted + length l.todo.items
