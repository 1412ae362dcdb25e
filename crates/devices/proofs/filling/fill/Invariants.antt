use Rattle.std.proofs.Common.{◌≤◌, ◌-◌, length, take}
use Rattle.devices.specs.Sources.{MayGive}
use Rattle.devices.proofs.filling.fill.Given as goal

-- the front of the room is filled
abbrev pub invariant-loop-done : goal.invariant-loop-done
invariant-loop-done g l = record {
  within : l.done ≤ length l.room;
  given : MayGive (g.S.Contents.source l.source) l.offset (take l.done l.room);
}

-- what is left of the room
abbrev pub decreases-loop-done : goal.decreases-loop-done
decreases-loop-done g l = length l.initial.room - l.done
