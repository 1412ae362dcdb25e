-- fuse(4): what a command leaves behind after a run over an open /dev/fuse, or over other streams.
use Rattle.std.specs.Prelude.{◌≡◌, ◌≢◌, ◌<◌, ◌≤◌, ◌⊎◌, ◌||◌, ℕ, Bool, true, false, List, Option, None, Result, MatchResult, if◌then◌else◌}
use Rattle.devices.specs.Counting.{no_pulls, no_pushes}
use Rattle.devices.specs.States.{Devices, devices, source_state, sink_state}
use Rattle.serve_device.specs.MountEnds.{MountEnds}
use Rattle.strata_words.specs.declared.options.Line.{Line}
use Rattle.strata_words.specs.declared.options.NoLine.{NoLine}
use Rattle.strata_words.specs.declared.options.NoLine.TheVariants as none
use Rattle.strata_words.specs.CommandLine.{IsLineOf, IsNoLine}
use Rattle.serve_loop.specs.declared.stream_fault.StreamFault.{StreamFault}
use Rattle.serve_loop.specs.declared.stream_fault.StreamFault.TheVariants.{Read, Write}
use Rattle.strata.specs.declared.faults.Fault.{Fault}
use Rattle.strata.specs.declared.faults.Fault.TheVariants.{Stopped}
use Rattle.strata.specs.Faults.{status_of, line_told_of, out_of_memory}
use Rattle.strata.specs.Ending.{IsDone, IsRunOf, EndsInFault, TellsVersion}
use Rattle.strata.specs.Ends.{EndStates, Given, device, streams, unused}
use Rattle.strata.specs.Readers.{IsRunByReaders}

-- a fault means an unmount: a pull failed and the input is gone, or a push failed and one of both
-- is gone
abbrev pub is_taken_away : Fault → Bool → Bool → Bool
is_taken_away (Stopped Read) input output = input
is_taken_away (Stopped Write) input output = input || output
is_taken_away _ input output = false

-- the exit status of a fault if each device is gone or not
abbrev pub status_on_device : Fault → Bool → Bool → ℕ
status_on_device fault input output =
    if is_taken_away fault input output then 0 else status_of fault

-- the program stopped, and whether that is because of an unmount
pub record StopsWhere (A : Type 0) (words : List (List ℕ)) (taken_away : Bool)
    (status : ℕ) (old new : MountEnds) : Type 0 where
  pub fault : Fault
  pub whether : is_taken_away fault new.input_gone new.output_gone ≡ taken_away
  pub status_is : status ≡ status_on_device fault new.input_gone new.output_gone
  pub stopped : EndsInFault A words fault old.devices new.devices

-- what a run leaves by its status, if each device is gone or not: with 0 it did what its arguments
-- say, or there was an unmount; with another it stopped with a fault and without an unmount; and
-- with 2, because of its arguments, no device was touched
pub record IsRunOnDevice (A : Type 0) (words : List (List ℕ)) (status : ℕ)
    (old new : MountEnds) : Type 0 where
  pub done : status ≡ 0 → IsDone A words old.devices new.devices
      ⊎ StopsWhere A words true status old new
  pub stopped : status ≢ 0 → StopsWhere A words false status old new
  pub untouched : status ≡ 2 → new.devices ≡ old.devices

-- an unmount: a read or a write failed, and nothing else went wrong
pub record IsTakenAway (A : Type 0) (words : List (List ℕ)) (old new : Devices) : Type 0 where
  pub stop : StreamFault
  pub stream : (stop ≡ Read) ⊎ (stop ≡ Write)
  pub ended : EndsInFault A words (Stopped stop) old new

-- ---- which devices a line names

-- a source of what a reader has left and a sink of what a writer holds, neither used so far
abbrev pub new_devices : Option (List ℕ) → Option (List ℕ) → Devices
new_devices left held = devices (source_state left no_pulls) (sink_state held no_pushes)

-- the two devices of an open /dev/fuse over the same reader and writer. What such a writer holds is
-- not known
abbrev pub mounted : Option (List ℕ) → MountEnds
mounted left = record {
  devices = new_devices left None;
  input_gone = false;
  output_gone = false;
}

-- over an open /dev/fuse by one reader, whose two devices are left; or there was no memory for them
abbrev pub IsRunMounted : (A : Type 0) → List (List ℕ) → ℕ → Option (List ℕ) → EndStates A → Type 0
IsRunMounted A words status left (device new) = IsRunOnDevice A words status (mounted left) new
IsRunMounted A words status left unused = status ≡ status_of out_of_memory
IsRunMounted A words status left _ = ⊥

-- over the streams that are left, which were these before
abbrev pub IsRunStreamed : (A : Type 0) → List (List ℕ) → ℕ → Devices → EndStates A → Type 0
IsRunStreamed A words status old (streams new) = IsRunOf A words status old new
IsRunStreamed A words status old _ = ⊥

-- the program ran by a line over what it was given, and left these ends: an open /dev/fuse if the
-- line says device, by one reader or several, and other streams otherwise
pub record IsRunBy (A : Type 0) (words : List (List ℕ)) (line : Line) (given : Given) (status : ℕ)
    (ends : EndStates A) : Type 0 where
  pub device : line.device ≡ true → line.readers ≤ 1 → IsRunMounted A words status given.left ends
  pub readers : line.device ≡ true → 1 < line.readers
      → IsRunByReaders A status line given.left ends
  pub streams : line.device ≡ false
      → IsRunStreamed A words status (new_devices given.left given.held) ends

-- the arguments have no line: the program printed its version to a new output over the writer, if
-- they ask for it, and did not touch the input; or it ended with their fault
abbrev pub EndsWithoutLine : {A : Type 0} → NoLine → Given → ℕ → EndStates A → Type 0
EndsWithoutLine none.Version given status (streams new) =
    (new.source ≡ source_state given.left no_pulls)
    × TellsVersion status (sink_state given.held no_pushes) new.sink
EndsWithoutLine (none.Fault fault) given status unused = status ≡ status_of (line_told_of fault)
EndsWithoutLine _ given status _ = ⊥

-- this was read from the arguments: their line, or why they have none
abbrev pub IsReadOf : List (List ℕ) → Result Line NoLine → Type 0
IsReadOf words read = MatchResult read (IsLineOf words) (IsNoLine words)

-- the arguments were read, as a line by which the program then ran; or they have none
pub record IsRunAsSaid (A : Type 0) (words : List (List ℕ)) (given : Given) (status : ℕ)
    (ends : EndStates A) : Type 0 where
  pub read : Result Line NoLine
  pub by : MatchResult read
      (λ line. IsLineOf words line × IsRunBy A words line given status ends)
      (λ no_line. IsNoLine words no_line × EndsWithoutLine no_line given status ends)
