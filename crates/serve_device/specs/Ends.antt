-- How the readers of one open /dev/fuse ended, and which end is reported for all of them.
use Rattle.std.specs.Prelude.{ℕ, Bool, ◌||◌, List, [], ◌∷◌, Option, None, Some, Result, Ok, Err, nat_le, if◌then◌else◌}
use Rattle.serve_loop.specs.declared.stream_fault.StreamFault.{StreamFault}
use Rattle.serve_loop.specs.declared.stream_fault.StreamFault.TheVariants as faults
use Rattle.serve_loop.specs.declared.done.Done.{Done}
use Rattle.serve_device.specs.declared.ends.End.{End}
use Rattle.serve_device.specs.declared.ends.End.TheVariants.{AtEnd, TakenAway, Stopped}

-- the end of a reader that stopped: an unmount if a read failed and its side is gone, or a write
-- failed and either side is
abbrev pub end_of_stop : StreamFault → Bool → Bool → End
end_of_stop faults.Read input output = if input then TakenAway else Stopped faults.Read
end_of_stop faults.Write input output = if input || output then TakenAway else Stopped faults.Write
end_of_stop fault input output = Stopped fault

-- the end of a reader from the result of its stream, if it served one, and whether either side is
-- gone
abbrev pub end_of : {A : Type 0} → Option (Result (Done A) StreamFault) → Bool → Bool → End
end_of None input output = AtEnd
end_of (Some (Ok done)) input output = AtEnd
end_of (Some (Err fault)) input output = end_of_stop fault input output

-- the rank of a fault in the table of faults and exit statuses
abbrev pub place_of : StreamFault → ℕ
place_of faults.Read = 1
place_of faults.Write = 2
place_of (faults.BadLength at len) = 3
place_of (faults.CutOff at) = 4
place_of faults.Turns = 5
place_of faults.Memory = 6

-- the rank of an end in the order of reporting: faults, then an unmount, and last neither
abbrev pub place_of_end : End → ℕ
place_of_end (Stopped fault) = place_of fault
place_of_end TakenAway = 7
place_of_end AtEnd = 8

-- the one of two ends that is reported; the first if they rank alike
abbrev pub first_told : End → End → End
first_told low high = if nat_le (place_of_end low) (place_of_end high) then low else high

-- the result of a stream that was served to its end
abbrev pub done_of : {A : Type 0} → Option (Result (Done A) StreamFault) → List (Done A)
done_of (Some (Ok done)) = done ∷ []
done_of _ = []
