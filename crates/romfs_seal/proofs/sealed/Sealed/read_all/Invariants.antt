use Rattle.std.proofs.Common.{◌≤◌, ◌-◌, length, take}
use Rattle.devices.specs.Read.{AreRead}
use Rattle.romfs_seal.proofs.sealed.Sealed.read_all.Given as goal

-- what was read so far
abbrev pub invariant-loop-done : goal.invariant-loop-done
invariant-loop-done g l = record {
  within : l.done ≤ length l.room;
  read : AreRead (g.F.NamedFiles.seal l.self.files) l.place (take l.done l.room);
}

-- what is left of the room
abbrev pub decreases-loop-done : goal.decreases-loop-done
decreases-loop-done g l = length l.initial.room - l.done
