-- What serving a stream over a stack to its end, or until its session has begun, promises.
use Rattle.std.specs.Prelude.{◌≡◌, Result, Err}
use Rattle.std.specs.Io.KnownBytes.{IsAtEnd}
use Rattle.devices.specs.States.{Devices}
use Rattle.reply_model.specs.declared.session.Session.{Session}
use Rattle.reply_model.specs.Readings.{Sourced}
use Rattle.reply_pool.specs.Answers.{answering_from}
use Rattle.serve_loop.specs.declared.done.Done.{Done}
use Rattle.serve_loop.specs.declared.opening.Opening.{Opening}
use Rattle.serve_loop.specs.declared.opening.Until.{Until}
use Rattle.serve_loop.specs.declared.stream_fault.StreamFault.{StreamFault}
use Rattle.serve_loop.specs.declared.stream_fault.StreamFault.TheVariants.{Turns}
use Rattle.serve_loop.specs.Serving.{Does, Trace}
use Rattle.serve_loop.specs.Opening.{IsNotOpened, IsOpened, IsServedUntil, OnEnded}
use Rattle.serve_core.specs.Headline.{Bounds}

-- a stream was served over a stack to its end, or until it stopped, and its session had not begun
abbrev pub IsNotOpenedOver : {A : Type 0} → Session → Sourced → Bounds → Trace
    → Result (Done A) StreamFault → Type 0
IsNotOpenedOver first by within t result =
    IsNotOpened (answering_from first by) within.counted within.turns t result

-- a stream was served over a stack until its session had begun, or before that to its end, or until
-- it stopped
abbrev pub IsOpenedOver : {A : Type 0} → Session → Sourced → Bounds → Trace
    → Result (Opening A) StreamFault → Type 0
IsOpenedOver first by within t result =
    IsOpened (answering_from first by) within.counted within.turns t result

-- a stream was served over a stack to its end, or until its session had begun, as given
abbrev pub IsServedOverUntil : {A : Type 0} → Until → Session → Sourced → Bounds → Trace
    → Result (Opening A) StreamFault → Type 0
IsServedOverUntil until first by within t result =
    IsServedUntil until (answering_from first by) within.counted within.turns t result

-- it was served so between a source and a sink; at its end nothing is left of the source, and with
-- no turns the result is `Turns`
pub record RunsUntil {A : Type 0} (until : Until) (first : Session) (by : Sourced)
    (within : Bounds) (result : Result (Opening A) StreamFault) (old new : Devices) : Type 0 where
  pub run : Does (λ t. IsServedOverUntil until first by within t result) old new
  pub end : OnEnded result (IsAtEnd new.source.left)
  pub at_once : within.turns ≡ 0 → result ≡ Err Turns
