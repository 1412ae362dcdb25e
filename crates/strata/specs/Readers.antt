-- fuse(4): what a command leaves behind after a run over an open /dev/fuse by several readers.
use Rattle.std.specs.Prelude.{◌≡◌, ◌⊎◌, ℕ, List, Option, replicate}
use Rattle.strata_words.specs.declared.options.Line.{Line}
use Rattle.devices.specs.declared.limits.TheConstants.{MAX_TURNS}
use Rattle.serve_device.specs.declared.ends.End.{End}
use Rattle.serve_device.specs.declared.ends.End.TheVariants.{AtEnd, TakenAway, Stopped}
use Rattle.serve_device.specs.Readers.{AreServedBy, shared}
use Rattle.serve_device.specs.Seats.{SeatState, end_of_all, new_seat}
use Rattle.reply_model.specs.Readings.{Sourced}
use Rattle.serve_core.specs.Headline.{bounds}
use Rattle.serve_loop.specs.declared.done.Done.{Done}
use Rattle.strata.specs.declared.faults.Fault.{Fault}
use Rattle.strata_images.specs.Faults.{AreUnread}
use Rattle.strata_images.specs.Images.{AreNotStacked, ArePrepared, AreReadFor, profile_of}
use Rattle.strata.specs.Faults.{IsOfImages, out_of_memory, status_of, stop_status}
use Rattle.strata.specs.Ending.{first_of}
use Rattle.strata.specs.Ends.{EndStates, readers, unused}

-- the exit status of the end that is reported for readers
abbrev pub status_of_end : End → ℕ
status_of_end (Stopped stop) = stop_status stop
status_of_end TakenAway = 0
status_of_end AtEnd = 0

-- the images that the line names are good, and these readers, as many as it says, all over a reader
-- that has this left, served their stack and counted no lookups
pub record AreShared (A : Type 0) (line : Line) (left : Option (List ℕ))
    (seats : List (SeatState A)) : Type 0 where
  pub images : List (List ℕ)
  pub read : AreReadFor line images
  pub by : Sourced
  pub prepared : ArePrepared line images by
  pub before : Option (Done A)
  pub served : AreServedBy (first_of line) (shared by (bounds MAX_TURNS 0))
      (replicate line.readers (new_seat left)) seats before

-- one of the images that the line names could not be read, or they are not stacked, or memory ran
-- out
abbrev pub IsNotShared : Line → Fault → Type 0
IsNotShared line fault =
    IsOfImages (AreUnread line) fault
    ⊎ (((images : List (List ℕ)) × AreReadFor line images
    × IsOfImages (AreNotStacked (profile_of line) images) fault) ⊎ (fault ≡ out_of_memory))

-- readers over a reader with this left served what the line says, and the end reported for them has
-- this status; or there are none, and an earlier fault has it
abbrev pub IsRunByReaders : (A : Type 0) → ℕ → Line → Option (List ℕ) → EndStates A → Type 0
IsRunByReaders A status line left (readers seats) =
    (status ≡ status_of_end (end_of_all seats)) × AreShared A line left seats
IsRunByReaders A status line left unused =
    (fault : Fault) × (status ≡ status_of fault) × IsNotShared line fault
IsRunByReaders A status line left _ = ⊥
