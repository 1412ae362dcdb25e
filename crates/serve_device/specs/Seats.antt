-- The readers of one open /dev/fuse: what a contract sees of each seat.
use Rattle.std.specs.Prelude.{◌≡◌, ℕ, false, List, [], ◌∷◌, ◌++◌, Option, None, Result}
use Rattle.std.specs.List.{AllByRecursion}
use Rattle.devices.specs.Counting.{no_pulls, no_pushes}
use Rattle.devices.specs.States.{Devices, devices, source_state, sink_state}
use Rattle.serve_device.specs.MountEnds.{MountEnds, ends}
use Rattle.serve_loop.specs.declared.stream_fault.StreamFault.{StreamFault}
use Rattle.serve_loop.specs.declared.done.Done.{Done}
use Rattle.serve_device.specs.declared.ends.End.{End}
use Rattle.serve_device.specs.declared.ends.End.TheVariants.{AtEnd}
use Rattle.serve_device.specs.declared.seat.Seat.{Seat}
use Rattle.serve_device.specs.Ends.{done_of, end_of, first_told}

-- the two ends of the mount that a reader has, and the result of its stream, if it served one
pub record SeatState (A : Type 0) : Type 0 where
  pub ends : MountEnds
  pub result : Option (Result (Done A) StreamFault)

-- that of a seat, by what its reader has left
abbrev pub seat_of : {I O A : Type 0} → (I → Option (List ℕ)) → Seat I O A → SeatState A
seat_of remaining seat =
    record { ends = ends remaining seat.input seat.output; result = seat.result }

-- its source and its sink
abbrev pub devices_of : {A : Type 0} → SeatState A → Devices
devices_of seat = seat.ends.devices

-- that of a reader that has not begun, with this left to read
abbrev pub new_seat : {A : Type 0} → Option (List ℕ) → SeatState A
new_seat left = record {
  ends = record {
    devices = devices (source_state left no_pulls) (sink_state None no_pushes);
    input_gone = false;
    output_gone = false;
  };
  result = None;
}

-- none of these readers has begun
abbrev pub AreNew : {A : Type 0} → List (SeatState A) → Type 0
AreNew {A} seats = AllByRecursion (λ seat. (left : Option (List ℕ)) × (seat ≡ new_seat left)) seats

-- how a reader ended
abbrev pub own_end : {A : Type 0} → SeatState A → End
own_end seat = end_of seat.result seat.ends.input_gone seat.ends.output_gone

-- the end that is reported for readers
abbrev pub end_of_all : {A : Type 0} → List (SeatState A) → End
end_of_all [] = AtEnd
end_of_all (seat ∷ seats) = first_told (own_end seat) (end_of_all seats)

-- the results of those streams that were served to their end
abbrev pub done_of_all : {A : Type 0} → List (SeatState A) → List (Done A)
done_of_all [] = []
done_of_all (seat ∷ seats) = done_of seat.result ++ done_of_all seats
