-- The results of sessions at a socket, served one after another.
use Rattle.std.specs.Prelude.{◌≡◌, ◌<◌, ◌+◌, ◌⊎◌, ℕ, List, [], ◌∷◌, length, Option, Some, None, Result, Ok, Err}
use Rattle.devices.specs.declared.counts.Accepts.{Accepts}
use Rattle.devices.specs.Counting.{no_pulls, no_pushes}
use Rattle.devices.specs.declared.limits.TheConstants.{MAX_TURNS}
use Rattle.reply_model.specs.declared.session.Session.{Session}
use Rattle.reply_model.specs.Readings.{Sourced}
use Rattle.serve_loop.specs.declared.stream_fault.StreamFault.{StreamFault}
use Rattle.serve_loop.specs.declared.done.Done.{Done}
use Rattle.serve_loop.specs.Serving.{Trace}
use Rattle.serve_core.specs.Headline.{IsRunWithin, bounds}
use Rattle.strata.specs.declared.faults.Fault.{Fault}
use Rattle.strata.specs.declared.faults.Fault.TheVariants.{Accept, InSession}
use Rattle.strata.specs.Faults.{status_of}

-- a session was served over a stack and the sources of its data, between new devices, as a stream
-- of its own, and lookups were counted for this many of the first nodes
pub record IsSession {A : Type 0} (first : Session) (by : Sourced) (counted : ℕ) (t : Trace)
    (result : Result (Done A) StreamFault) : Type 0 where
  pub run : IsRunWithin first by (bounds MAX_TURNS counted) t result
  pub first_pull : t.source_before ≡ no_pulls
  pub first_push : t.sink_before ≡ no_pushes

-- a session at a socket: what it did, and how it ended. No lookups are counted
pub record ServedSession (A : Type 0) (first : Session) (by : Sourced) : Type 0 where
  pub trace : Trace
  pub result : Result (Done A) StreamFault
  pub is : IsSession first by 0 trace result

-- the fault of the session with this number, if it stopped
abbrev pub fault_of : {A : Type 0} → ℕ → Result (Done A) StreamFault → Option Fault
fault_of n (Ok done) = None
fault_of n (Err stop) = Some (InSession n stop)

-- the fault, or otherwise the later one
abbrev pub or_later : Option Fault → Option Fault → Option Fault
or_later None later = later
or_later (Some fault) later = Some fault

-- the fault of the first session that stopped, if one did; they are numbered from n on
unfoldable pub first_fault : {A : Type 0} {first : Session} {by : Sourced} → ℕ
    → List (ServedSession A first by) → Option Fault
first_fault n [] = None
first_fault n (s ∷ more) = or_later (fault_of n s.result) (first_fault (n + 1) more)

-- the end of sessions: all are served, and it is the fault of the first that stopped; or fewer, and
-- it is that no client could be accepted
abbrev pub EndsSessions : {A : Type 0} {first : Session} {by : Sourced} → ℕ
    → List (ServedSession A first by) → Option Fault → Type 0
EndsSessions count served fault =
    ((length served ≡ count) × (fault ≡ first_fault 1 served))
    ⊎ ((length served < count) × (fault ≡ Some Accept))

-- the counts of the source of clients, before sessions and after them
pub record Accepting : Type 0 where
  pub before : Accepts
  pub after : Accepts

-- the same, from these two
abbrev pub accepting : Accepts → Accepts → Accepting
accepting before after = record { before = before; after = after }

-- how often no client could be accepted
abbrev pub accept_failures : Option Fault → ℕ
accept_failures (Some Accept) = 1
accept_failures _ = 0

-- as many clients were accepted as sessions were served; and an accept failed exactly if that is
-- the fault
pub record HaveClients {A : Type 0} {first : Session} {by : Sourced}
    (served : List (ServedSession A first by)) (fault : Option Fault)
    (clients : Accepting) : Type 0 where
  pub accepted : clients.after.clients ≡ clients.before.clients + length served
  pub failures : clients.after.failures ≡ clients.before.failures + accept_failures fault

-- this many sessions were requested, each with a client of its own, and they end with this fault,
-- or with none
pub record AreServed (A : Type 0) (first : Session) (by : Sourced) (count : ℕ)
    (fault : Option Fault) (clients : Accepting) : Type 0 where
  pub served : List (ServedSession A first by)
  pub ends : EndsSessions count served fault
  pub have : HaveClients served fault clients

-- the exit status of a fault, or of none
abbrev pub status_at : Option Fault → ℕ
status_at None = 0
status_at (Some fault) = status_of fault

-- this many sessions were requested, and they end with this status
pub record EndWith (A : Type 0) (first : Session) (by : Sourced)
    (count status : ℕ) (clients : Accepting) : Type 0 where
  pub fault : Option Fault
  pub status_is : status ≡ status_at fault
  pub served : AreServed A first by count fault clients
