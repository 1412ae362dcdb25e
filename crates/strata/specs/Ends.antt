-- fuse(4), write(2): what a contract sees of the ends that a run of the program leaves.
use Rattle.std.specs.Prelude.{ℕ, List, map, Option}
use Rattle.devices.specs.States.{Devices, devices, source_state, sink_state}
use Rattle.serve_device.specs.Seats.{SeatState, seat_of}
use Rattle.serve_device.specs.MountEnds.{MountEnds, ends}
use Rattle.strata.specs.declared.ends.Ends.{Ends}
use Rattle.strata.specs.declared.ends.Ends.TheVariants as left

-- none; the states of two streams, of the two devices of an open /dev/fuse, or of seats of readers
pub data EndStates (A : Type 0) : Type 0 where
  unused : EndStates A
  streams : Devices → EndStates A
  device : MountEnds → EndStates A
  readers : List (SeatState A) → EndStates A

-- what is known about the ends that a run got: what is left in the reader, and what the writer
-- holds
pub record Given : Type 0 where
  pub left : Option (List ℕ)
  pub held : Option (List ℕ)

-- the same, from its parts
abbrev pub given : Option (List ℕ) → Option (List ℕ) → Given
given left held = record { left = left; held = held }

-- the states of these ends, by what their readers have left and their writers hold
abbrev pub end_states : {I O A : Type 0} → (I → Option (List ℕ)) → (O → Option (List ℕ))
    → Ends I O A → EndStates A
end_states remaining contents left.Unused = unused
end_states remaining contents (left.Streams input output) =
    streams (devices (source_state (remaining input.reader) input.counts)
    (sink_state (contents output.writer) output.counts))
end_states remaining contents (left.Device input output) =
    device (ends remaining input output)
end_states remaining contents (left.Readers seats) =
    readers (map (seat_of remaining) seats.items)
