use Rattle.std.proofs.Common.{◌≤◌, ◌+◌, ◌*◌, ◌-◌, ◌^◌}
use Rattle.layer_names.proofs.guesses.room_for.Given as goal

-- the room is some, and no more than twice what is needed
abbrev pub invariant-loop-room : goal.invariant-loop-room
invariant-loop-room l = record { some : 1 ≤ l.room; few : l.room ≤ 2 * l.rows + 1; bound : l.room ≤ 2 ^ 32 }

-- each turn makes it larger
abbrev pub decreases-loop-room : goal.decreases-loop-room
decreases-loop-room l = l.rows - l.room
