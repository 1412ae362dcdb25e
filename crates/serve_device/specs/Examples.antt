-- Worked examples: the one of two ends that is reported, in the order of the table of faults, and
-- that of several readers.
use Rattle.std.specs.Prelude.{◌≡◌, true, false, [], ◌∷◌, None, Some, Err}
use Rattle.serve_loop.specs.declared.stream_fault.StreamFault.{StreamFault}
use Rattle.serve_loop.specs.declared.stream_fault.StreamFault.TheVariants as faults
use Rattle.serve_device.specs.declared.ends.End.TheVariants.{AtEnd, TakenAway, Stopped}
use Rattle.serve_device.specs.Ends.{end_of_stop, first_told}
use Rattle.serve_device.specs.Seats.{SeatState, end_of_all, new_seat}

-- the upper of each two neighbours in the table; and the first of two that rank alike
pub record OrderExamples : Type 0 where
  pub read : first_told (Stopped faults.Write) (Stopped faults.Read) ≡ Stopped faults.Read
  pub write : first_told (Stopped (faults.BadLength 0 39)) (Stopped faults.Write)
      ≡ Stopped faults.Write
  pub bad_length : first_told (Stopped (faults.CutOff 0)) (Stopped (faults.BadLength 0 39))
      ≡ Stopped (faults.BadLength 0 39)
  pub cut_off : first_told (Stopped faults.Turns) (Stopped (faults.CutOff 0))
      ≡ Stopped (faults.CutOff 0)
  pub turns : first_told (Stopped faults.Memory) (Stopped faults.Turns) ≡ Stopped faults.Turns
  pub memory : first_told TakenAway (Stopped faults.Memory) ≡ Stopped faults.Memory
  pub taken_away : first_told AtEnd TakenAway ≡ TakenAway
  pub alike : first_told (Stopped (faults.CutOff 1)) (Stopped (faults.CutOff 2))
      ≡ Stopped (faults.CutOff 1)

-- a failed read means an unmount if its own side is gone, a failed write if either is; nothing else
-- does
pub record GoneExamples : Type 0 where
  pub read : end_of_stop faults.Read true false ≡ TakenAway
  pub read_there : end_of_stop faults.Read false true ≡ Stopped faults.Read
  pub write : end_of_stop faults.Write false true ≡ TakenAway
  pub write_by_input : end_of_stop faults.Write true false ≡ TakenAway
  pub write_there : end_of_stop faults.Write false false ≡ Stopped faults.Write
  pub memory : end_of_stop faults.Memory true true ≡ Stopped faults.Memory

-- a reader that stopped so
abbrev pub stopped_seat : {A : Type 0} → StreamFault → SeatState A
stopped_seat fault = record (new_seat None) { result = Some (Err fault) }

-- of two faults that rank alike that of the first reader is reported, and a fault before an end
pub record SeatExamples (A : Type 0) : Type 0 where
  pub none : end_of_all {A = A} [] ≡ AtEnd
  pub alike : end_of_all {A = A}
      (new_seat None ∷ stopped_seat (faults.CutOff 2) ∷ stopped_seat (faults.CutOff 1) ∷ [])
      ≡ Stopped (faults.CutOff 2)
  pub first : end_of_all {A = A}
      (stopped_seat faults.Memory ∷ stopped_seat faults.Read ∷ new_seat None ∷ [])
      ≡ Stopped faults.Read
