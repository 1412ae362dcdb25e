-- What the readers of one open /dev/fuse do, each a stream of its own between its own devices, over
-- one stack and the sources of its data. Each counts lookups for as many nodes as its bounds say.
use Rattle.std.specs.Prelude.{◌≡◌, ◌<◌, IsTrue, List, ◌∷◌, Option, None, Some, Result, Ok}
use Rattle.std.specs.List.{AllZip}
use Rattle.devices.specs.Sources.{Source}
use Rattle.devices.specs.States.{Devices}
use Rattle.fuse_answer.specs.Puts.{sourced_by}
use Rattle.reply_model.specs.declared.session.Session.{Session}
use Rattle.reply_model.specs.Readings.{Sourced}
use Rattle.serve_loop.specs.declared.done.Done.{Done}
use Rattle.serve_loop.specs.declared.opening.Begun.{Begun}
use Rattle.serve_loop.specs.declared.opening.Opening.TheVariants as openings
use Rattle.serve_loop.specs.Serving.{Does}
use Rattle.serve_loop.specs.declared.stream_fault.StreamFault.{StreamFault}
use Rattle.serve_core.specs.declared.running.Serving.{Serving}
use Rattle.serve_core.specs.Headline.{Bounds, RunsWithin, bounds_of}
use Rattle.serve_core.specs.Openings.{IsNotOpenedOver, IsOpenedOver}
use Rattle.serve_device.specs.Seats.{SeatState, devices_of}

-- what readers share: a stack with the sources of its data, and the bounds of each
pub record Shared : Type 0 where
  pub by : Sourced
  pub within : Bounds

-- the same, from its parts
abbrev pub shared : Sourced → Bounds → Shared
shared by within = record { by = by; within = within }

-- what the readers of a serving share
abbrev pub shared_of : {A D G : Type 0} → (D → Source) → Serving A D G → Shared
shared_of source serving = shared (sourced_by source serving.served) (bounds_of source serving)

-- either side of a seat is gone only after a failure of its own
pub record IsGoneByFailure {A : Type 0} (seat : SeatState A) : Type 0 where
  pub input : IsTrue seat.ends.input_gone → 0 < (devices_of seat).source.counts.failures
  pub output : IsTrue seat.ends.output_gone → 0 < (devices_of seat).sink.counts.failures

-- a reader served what its devices delivered: its result holds between their old and new states,
-- and its seat has it
pub record HasDone {A : Type 0}
    (is : Result (Done A) StreamFault → Devices → Devices → Type 0) (old new : SeatState A)
    : Type 0 where
  pub result : Result (Done A) StreamFault
  pub result_is : new.result ≡ Some result
  pub does : is result (devices_of old) (devices_of new)
  pub gone : IsGoneByFailure new

-- a reader's messages were served over a stack as a stream that begins in this session, as one
-- reader alone serves it
abbrev pub HasServed : {A : Type 0} → Session → Sourced → Bounds → SeatState A → SeatState A
    → Type 0
HasServed first by within old new = HasDone (RunsWithin first by within) old new

-- a reader served over a stack until its session had begun, if it did; otherwise to the end of its
-- stream, or until it stopped
abbrev pub HasOpened : {A : Type 0} → Session → Shared → SeatState A → SeatState A
    → Option (Begun A) → Type 0
HasOpened first over old new (Some begun) =
    Does (λ t. IsOpenedOver first over.by over.within t (Ok (openings.Begun begun)))
    (devices_of old) (devices_of new)
HasOpened first over old new None =
    HasDone (λ result. Does (λ t. IsNotOpenedOver first over.by over.within t result)) old new

-- the reader of the first seat served until the session had begun, with this result; from then on
-- all of them served, each between its own devices, in streams that begin in that session
pub record AreServedByAll {A : Type 0} (first : Session) (by : Sourced) (within : Bounds)
    (old new : List (SeatState A)) (before : Done A) : Type 0 where
  pub leader : SeatState A
  pub others : List (SeatState A)
  pub old_is : old ≡ leader ∷ others
  pub began : SeatState A
  pub begun : Begun A
  pub done_is : begun.done ≡ before
  pub opened : HasOpened first (shared by within) leader began (Some begun)
  pub each : AllZip (HasServed begun.session by within) (began ∷ others) new

-- the reader of the first seat served alone, and ended before the session had begun
pub record IsServedByOne {A : Type 0} (first : Session) (by : Sourced) (within : Bounds)
    (old new : List (SeatState A)) : Type 0 where
  pub leader : SeatState A
  pub others : List (SeatState A)
  pub old_is : old ≡ leader ∷ others
  pub ended : SeatState A
  pub new_is : new ≡ ended ∷ others
  pub opened : HasOpened first (shared by within) leader ended None

-- readers served a stack and its sources, after the messages before their session; or only one,
-- which ended before the session had begun
abbrev pub AreServedBy : {A : Type 0} → Session → Shared → List (SeatState A)
    → List (SeatState A) → Option (Done A) → Type 0
AreServedBy first over old new (Some before) =
    AreServedByAll first over.by over.within old new before
AreServedBy first over old new None = IsServedByOne first over.by over.within old new
