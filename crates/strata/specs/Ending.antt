-- What a command leaves behind: its status, and what its output gained.
use Rattle.std.specs.Prelude.{◌≡◌, ◌≢◌, ◌⊎◌, ◌||◌, ℕ, List, true, Option, Some, None, is_some, Result, Ok, Err, OnOk, if◌then◌else◌}
use Rattle.std.specs.Io.KnownBytes.{Appends, Consumes, IsAtEnd}
use Rattle.devices.specs.Counting.{no_pulls, no_pushes, no_accepts}
use Rattle.devices.specs.States.{SourceState, SinkState, Devices}
use Rattle.serve_loop.specs.declared.stream_fault.StreamFault.{StreamFault}
use Rattle.serve_loop.specs.declared.done.Done.{Done}
use Rattle.serve_loop.specs.Serving.{Trace}
use Rattle.reply_model.specs.declared.session.Session.{Session}
use Rattle.reply_model.specs.Readings.{Sourced}
use Rattle.reply_model.specs.declared.session.Session.TheVariants.{Fresh, LastingFresh}
use Rattle.serve_core.specs.declared.terms.Counted.{Counted}
use Rattle.serve_core.specs.declared.terms.Counted.TheVariants.{AllNodes, NoNodes}
use Rattle.serve_core.specs.Headline.{nodes_counted}
use Rattle.strata_words.specs.declared.options.Line.{Line}
use Rattle.strata_words.specs.declared.options.LineFault.{LineFault}
use Rattle.strata_words.specs.declared.options.Verb.{Verb}
use Rattle.strata_words.specs.declared.options.Verb.TheVariants as verbs
use Rattle.strata_words.specs.CommandLine.{IsLineOf, IsLineFault}
use Rattle.strata.specs.declared.faults.Fault.{Fault}
use Rattle.strata.specs.declared.faults.Fault.TheVariants.{RequestsFile, RepliesFile, BalancesFile, Bind, Accept, InSession, Stopped}
use Rattle.strata_images.specs.Faults.{AreUnread}
use Rattle.strata_images.specs.Images.{AreNotStacked, ArePrepared, AreReadFor, profile_of}
use Rattle.strata_images.specs.Lines.{AreLost, ArePut}
use Rattle.strata_images.specs.Checking.{AreGood, AreNotGood}
use Rattle.strata_images.specs.Listing.{IsNotListed, IsStackListed}
use Rattle.strata.specs.Faults.{IsOfImages, line_told_of, status_of, out_of_memory, write_failed}
use Rattle.strata.specs.Texts.{version_line}
use Rattle.strata.specs.Sessions.{Accepting, AreServed, status_at, IsSession}

-- the session in which its stream begins: over a device, or if the line says so, the client learns
-- that the tree never changes
abbrev pub first_of : Line → Session
first_of line = if line.lasting || line.device then LastingFresh else Fresh

-- the nodes whose lookups are counted: all if the line names a file for their balances, otherwise
-- none
abbrev pub counted_of : Line → Counted
counted_of line = if is_some line.balances then AllNodes else NoNodes

-- a stream was served over a stack and its sources as a session of its own, as the line says
abbrev pub IsSessionOf : {A : Type 0} → Line → Sourced → Trace → Result (Done A) StreamFault
    → Type 0
IsSessionOf line by t result =
    IsSession (first_of line) by (nodes_counted (counted_of line) by.stack) t result

-- the devices that a command is run between were not used before
pub record AreNew (devices : Devices) : Type 0 where
  pub pulls : devices.source.counts ≡ no_pulls
  pub pushes : devices.sink.counts ≡ no_pushes

-- lines were not written: the output failed, or memory ran out and the output is unchanged
abbrev pub AreNotPut : List ℕ → SinkState → SinkState → Fault → Type 0
AreNotPut lines old new fault =
    ((fault ≡ write_failed) × AreLost lines old new) ⊎ ((fault ≡ out_of_memory) × (new ≡ old))

-- ---- the version

-- the output gained the line of the version, and the status is 0; or the output failed, or memory
-- ran out, and the status is that of the fault
pub record TellsVersion (status : ℕ) (old new : SinkState) : Type 0 where
  pub told : status ≡ 0 → ArePut version_line old new
  pub failed : status ≢ 0 → (fault : Fault) × (status ≡ status_of fault)
      × AreNotPut version_line old new fault

-- ---- serve

-- a call took from a source what the trace pulled, and everything that was left if it succeeded
pub record Gave {X E : Type 0} (t : Trace) (result : Result X E)
    (old new : SourceState) : Type 0 where
  pub got : Consumes old.left new.left t.got
  pub counts : new.counts ≡ t.source
  pub all : OnOk result (IsAtEnd new.left)

-- a call pushed to a sink what the trace pushed
pub record Took (t : Trace) (old new : SinkState) : Type 0 where
  pub put : Appends old.held new.held t.put
  pub counts : new.counts ≡ t.sink

-- the requests came from the input; or there is a file for them, and the input was not touched
pub record Asks {F X E : Type 0} (file : Option F) (t : Trace) (result : Result X E)
    (old new : SourceState) : Type 0 where
  pub gave : file ≡ None → Gave t result old new
  pub kept : is_some file ≡ true → new ≡ old

-- the replies went to the output; or there is a file for them, and the output was not touched
pub record GetsReplies {F : Type 0} (file : Option F) (t : Trace)
    (old new : SinkState) : Type 0 where
  pub took : file ≡ None → Took t old new
  pub kept : is_some file ≡ true → new ≡ old

-- a stream was served over a stack and its sources, as a session of its own: it came from the input
-- and its replies went to the output, unless the line names a file instead of one of them
pub record IsServing {A : Type 0} (line : Line) (by : Sourced) (t : Trace)
    (result : Result (Done A) StreamFault) (old new : Devices) : Type 0 where
  pub session : IsSessionOf line by t result
  pub asks : Asks line.requests t result old.source new.source
  pub gains : GetsReplies line.replies t old.sink new.sink

-- the images are good, and the stream was served over their stack to its end
pub record IsServedWhole (A : Type 0) (line : Line) (images : List (List ℕ))
    (old new : Devices) : Type 0 where
  pub by : Sourced
  pub prepared : ArePrepared line images by
  pub trace : Trace
  pub done : Done A
  pub serving : IsServing line by trace (Ok done) old new

-- files are open if the line names them: for requests, replies and balances
abbrev pub AreNamed : {F : Type 0} → Line → Option F → Option F → Option F → Type 0
AreNamed line requests replies balances =
    (is_some requests ≡ is_some line.requests) × (is_some replies ≡ is_some line.replies)
    × (is_some balances ≡ is_some line.balances)

-- a file that the line names could not be opened or created, and no device was touched
pub record IsFileFault (line : Line) (fault : Fault) (old new : Devices) : Type 0 where
  pub kept : new ≡ old
  pub which :
      ((fault ≡ RequestsFile) × (is_some line.requests ≡ true))
      ⊎ (((fault ≡ RepliesFile) × (is_some line.replies ≡ true))
      ⊎ ((fault ≡ BalancesFile) × (is_some line.balances ≡ true)))

-- the images are good, and the stream was served over their stack until it stopped; the fault says
-- why
pub record IsServedInPart (A : Type 0) (line : Line) (images : List (List ℕ)) (fault : Fault)
    (old new : Devices) : Type 0 where
  pub by : Sourced
  pub prepared : ArePrepared line images by
  pub trace : Trace
  pub stop : StreamFault
  pub told : fault ≡ Stopped stop
  pub serving : IsServing {A = A} line by trace (Err stop) old new

-- the stream was served to its end, but the balances could not be written to their file
pub record AreBalancesLost (A : Type 0) (line : Line) (images : List (List ℕ)) (fault : Fault)
    (old new : Devices) : Type 0 where
  pub named : is_some line.balances ≡ true
  pub told : (fault ≡ write_failed) ⊎ (fault ≡ out_of_memory)
  pub served : IsServedWhole A line images old new

-- serving was not begun, for a file or the images, or not finished, or its balances were not
-- written
abbrev pub IsNotServed : (A : Type 0) → Line → List (List ℕ) → Fault → Devices → Devices → Type 0
IsNotServed A line images fault old new =
    IsFileFault line fault old new
    ⊎ ((IsOfImages (AreNotStacked (profile_of line) images) fault × (new ≡ old))
    ⊎ (IsServedInPart A line images fault old new ⊎ AreBalancesLost A line images fault old new))

-- ---- socket

-- the images are good, and sessions were served over their stack to clients of a socket that had
-- none before, and end with this fault, or with none
pub record IsServedAtSocket (A : Type 0) (line : Line) (images : List (List ℕ))
    (fault : Option Fault) : Type 0 where
  pub by : Sourced
  pub prepared : ArePrepared line images by
  pub clients : Accepting
  pub first_client : clients.before ≡ no_accepts
  pub served : AreServed A (first_of line) by line.sessions fault clients

-- and this is their status
pub record EndsAtSocket (A : Type 0) (line : Line) (images : List (List ℕ))
    (status : ℕ) : Type 0 where
  pub fault : Option Fault
  pub status_is : status ≡ status_at fault
  pub served : IsServedAtSocket A line images fault

-- the images are good, but the socket could not be bound
pub record IsNotBound (line : Line) (images : List (List ℕ)) (fault : Fault) : Type 0 where
  pub told : fault ≡ Bind
  pub by : Sourced
  pub prepared : ArePrepared line images by

-- why serving at a socket stopped
abbrev pub IsNotServedAtSocket : (A : Type 0) → Line → List (List ℕ) → Fault → Type 0
IsNotServedAtSocket A line images fault =
    IsOfImages (AreNotStacked (profile_of line) images) fault
    ⊎ (IsNotBound line images fault ⊎ IsServedAtSocket A line images (Some fault))

-- ---- all four

-- the work of a command over the images that were read is done. Only serve touches the input, and
-- socket touches neither device
abbrev pub IsDoneOver : (A : Type 0) → Verb → Line → List (List ℕ) → Devices → Devices → Type 0
IsDoneOver A verbs.Serve line images old new = IsServedWhole A line images old new
IsDoneOver A verbs.Socket line images old new =
    (new ≡ old) × IsServedAtSocket A line images None
IsDoneOver A verbs.Check line images old new =
    (new.source ≡ old.source) × AreGood line images old.sink new.sink
IsDoneOver A verbs.List line images old new =
    (new.source ≡ old.source) × IsStackListed (profile_of line) images old.sink new.sink

-- and if it stopped with a fault
abbrev pub IsStoppedOver : (A : Type 0) → Verb → Line → List (List ℕ) → Fault → Devices → Devices
    → Type 0
IsStoppedOver A verbs.Serve line images fault old new = IsNotServed A line images fault old new
IsStoppedOver A verbs.Socket line images fault old new =
    (new ≡ old) × IsNotServedAtSocket A line images fault
IsStoppedOver A verbs.Check line images fault old new =
    (new.source ≡ old.source)
    × IsOfImages (λ f. AreNotGood line images f old.sink new.sink) fault
IsStoppedOver A verbs.List line images fault old new =
    (new.source ≡ old.source)
    × IsOfImages (λ f. IsNotListed (profile_of line) images f old.sink new.sink) fault

-- the program did what its arguments say
pub record IsDone (A : Type 0) (words : List (List ℕ)) (old new : Devices) : Type 0 where
  pub line : Line
  pub images : List (List ℕ)
  pub line_is : IsLineOf words line
  pub read : AreReadFor line images
  pub done : IsDoneOver A line.verb line images old new

-- the program began what its arguments say, and stopped with a fault
pub record IsDoneInPart (A : Type 0) (words : List (List ℕ)) (fault : Fault)
    (old new : Devices) : Type 0 where
  pub line : Line
  pub images : List (List ℕ)
  pub line_is : IsLineOf words line
  pub read : AreReadFor line images
  pub stopped : IsStoppedOver A line.verb line images fault old new

-- one of the images in the arguments could not be read, or memory ran out
pub record HasUnreadImage (words : List (List ℕ)) (fault : Fault) : Type 0 where
  pub line : Line
  pub line_is : IsLineOf words line
  pub unread : IsOfImages (AreUnread line) fault

-- the arguments are no command, or memory ran out while they were read
pub record AreNotTaken (words : List (List ℕ)) (fault : Fault) : Type 0 where
  pub line : LineFault
  pub is : IsLineFault words line
  pub told : fault ≡ line_told_of line

-- the program stopped before its work, because of its arguments, an image's file or memory, and no
-- device was touched
pub record IsEarly (words : List (List ℕ)) (fault : Fault) (old new : Devices) : Type 0 where
  pub kept : new ≡ old
  pub which : AreNotTaken words fault ⊎ HasUnreadImage words fault

-- the program stopped with a fault, before its work or in it
abbrev pub EndsInFault : (A : Type 0) → List (List ℕ) → Fault → Devices → Devices → Type 0
EndsInFault A words fault old new = IsEarly words fault old new ⊎ IsDoneInPart A words fault old new

-- the fault belongs to sessions, which reported it as it occurred
abbrev pub IsOfSessions : Fault → Type 0
IsOfSessions fault =
    (fault ≡ Accept) ⊎ ((n : ℕ) × (stop : StreamFault) × (fault ≡ InSession n stop))

-- the program did all its steps: what its arguments say, or the faults of its sessions were
-- reported
abbrev pub IsOver : (A : Type 0) → List (List ℕ) → Option Fault → Devices → Devices → Type 0
IsOver A words None old new = IsDone A words old new
IsOver A words (Some fault) old new = IsOfSessions fault × EndsInFault A words fault old new

-- and this is its status
pub record IsOverWith (A : Type 0) (words : List (List ℕ)) (status : ℕ)
    (old new : Devices) : Type 0 where
  pub fault : Option Fault
  pub status_is : status ≡ status_at fault
  pub over : IsOver A words fault old new

-- the program stopped with this status
pub record EndsWith (A : Type 0) (words : List (List ℕ)) (status : ℕ)
    (old new : Devices) : Type 0 where
  pub fault : Fault
  pub status_is : status ≡ status_of fault
  pub stopped : EndsInFault A words fault old new

-- what a run of the program leaves by its status: with 0 it did what its arguments say; with
-- another it stopped with a fault; and with 2, because of its arguments, no device was touched
pub record IsRunOf (A : Type 0) (words : List (List ℕ)) (status : ℕ)
    (old new : Devices) : Type 0 where
  pub done : status ≡ 0 → IsDone A words old new
  pub stopped : status ≢ 0 → EndsWith A words status old new
  pub untouched : status ≡ 2 → new ≡ old
