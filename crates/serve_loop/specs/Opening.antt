-- What serving a stream to its end, or until its session has begun, promises.
use Rattle.std.specs.Prelude.{◌≡◌, ℕ, ◌<◌, List, [], length, map, true, false, Result, Ok, Err}
use Rattle.fuse_wire.specs.Stream.{IsSplit}
use Rattle.fuse_wire.specs.Requests.{asked}
use Rattle.reply_model.specs.Sessions.{is_fresh}
use Rattle.reply_model.specs.Streams.{session_at}
use Rattle.serve_loop.specs.Rounds.{Answering}
use Rattle.serve_loop.specs.Serving.{Trace, AreBalances, IsCounted, IsRun, before, moves_of}
use Rattle.serve_loop.specs.Laws.{HasAnsweredAll}
use Rattle.serve_loop.specs.declared.done.Done.{Done}
use Rattle.serve_loop.specs.declared.opening.Begun.{Begun}
use Rattle.serve_loop.specs.declared.opening.Opening.{Opening}
use Rattle.serve_loop.specs.declared.opening.Opening.TheVariants as openings
use Rattle.serve_loop.specs.declared.opening.Until.{Until}
use Rattle.serve_loop.specs.declared.opening.Until.TheVariants as wanted
use Rattle.serve_loop.specs.declared.stream_fault.StreamFault.{StreamFault}
use Rattle.serve_loop.specs.declared.stream_fault.StreamFault.TheVariants.{Read, Turns}

-- if these bytes are complete messages, and at least one, the session is still fresh after them;
-- nothing is said of other bytes
pub record HasNotBegun (by : Answering) (bytes : List ℕ) : Type 0 where
  pub fresh : (messages : List (List ℕ)) → IsSplit bytes messages [] → 0 < length messages
      → is_fresh (session_at by.first (map asked messages)) ≡ true

-- the result of these messages of a stream, for which these bytes were pushed
pub record IsDoneBy {A : Type 0} (by : Answering) (nodes : ℕ) (put : List ℕ)
    (messages : List (List ℕ)) (done : Done A) : Type 0 where
  pub counted : done.messages ≡ length messages
  pub written : done.written ≡ length put
  pub balanced : AreBalances (moves_of by messages) nodes done.balances.items

-- a stream is between two messages, and its session has begun since the last pull: everything
-- pulled is answered, and neither device failed or met its end
pub record HasBegun {A : Type 0} (by : Answering) (nodes turns : ℕ) (t : Trace)
    (begun : Begun A) : Type 0 where
  pub messages : List (List ℕ)
  pub answered : HasAnsweredAll by t messages []
  pub session_is : begun.session ≡ session_at by.first (map asked messages)
  pub ready : is_fresh begun.session ≡ false
  pub earlier : HasNotBegun by (before t)
  pub done : IsDoneBy by nodes t.put messages begun.done
  pub counted : IsCounted {A = A} turns t (Err Turns)

-- the session had not begun when more was last needed: at the end of the stream, at a failed read
-- or after the last turn; or otherwise before the last pull, after which another fault occurred
abbrev pub WasNotBegun : {A : Type 0} → Answering → Trace → Result (Done A) StreamFault → Type 0
WasNotBegun by t (Ok done) = HasNotBegun by t.got
WasNotBegun by t (Err Read) = HasNotBegun by t.got
WasNotBegun by t (Err Turns) = HasNotBegun by t.got
WasNotBegun by t (Err _) = HasNotBegun by (before t)

-- a stream was served to its end, or until it stopped, and its session had not begun
pub record IsNotOpened {A : Type 0} (by : Answering) (nodes turns : ℕ) (t : Trace)
    (result : Result (Done A) StreamFault) : Type 0 where
  pub run : IsRun by nodes turns t result
  pub not_begun : WasNotBegun by t result

-- a stream was served until its session had begun, or before that to its end, or until it stopped
abbrev pub IsOpened : {A : Type 0} → Answering → ℕ → ℕ → Trace → Result (Opening A) StreamFault
    → Type 0
IsOpened by nodes turns t (Ok (openings.Begun begun)) = HasBegun by nodes turns t begun
IsOpened by nodes turns t (Ok (openings.Ended done)) = IsNotOpened by nodes turns t (Ok done)
IsOpened {A} by nodes turns t (Err fault) = IsNotOpened {A = A} by nodes turns t (Err fault)

-- a stream was served to its end, or until it stopped
abbrev pub IsRunToEnd : {A : Type 0} → Answering → ℕ → ℕ → Trace → Result (Opening A) StreamFault
    → Type 0
IsRunToEnd by nodes turns t (Ok (openings.Begun begun)) = ⊥
IsRunToEnd by nodes turns t (Ok (openings.Ended done)) = IsRun by nodes turns t (Ok done)
IsRunToEnd {A} by nodes turns t (Err fault) = IsRun {A = A} by nodes turns t (Err fault)

-- a stream was served to its end, or until its session had begun, as given
abbrev pub IsServedUntil : {A : Type 0} → Until → Answering → ℕ → ℕ → Trace
    → Result (Opening A) StreamFault → Type 0
IsServedUntil wanted.End by nodes turns t result = IsRunToEnd by nodes turns t result
IsServedUntil wanted.Begun by nodes turns t result = IsOpened by nodes turns t result

-- this holds if a stream ended
abbrev pub OnEnded : {A E : Type 0} → Result (Opening A) E → Type 0 → Type 0
OnEnded (Ok (openings.Ended done)) it = it
OnEnded _ it = Unit {0}
