-- What the exit statuses mean to a caller.
use Rattle.std.specs.Prelude.{◌≡◌, ◌<◌, ◌+◌, ℕ, ◌⊎◌, ⊤, List, ◌∷◌, ◌++◌, length, vec_len, All, Option, Some, None, Ok, Err}
use Rattle.std.specs.List.{AllByRecursion}
use Rattle.devices.specs.States.{Devices}
use Rattle.romfs_format.specs.declared.rule.Profile.{Profile}
use Rattle.romfs_format.specs.Rules.{IsSound}
use Rattle.reply_model.specs.declared.session.Session.{Session}
use Rattle.reply_model.specs.Readings.{Sourced}
use Rattle.romfs_format.specs.declared.rule.ImageFault.{ImageFault}
use Rattle.serve_loop.specs.declared.stream_fault.StreamFault.{StreamFault}
use Rattle.serve_loop.specs.declared.stream_fault.StreamFault.TheVariants.{BadLength, CutOff, Read, Write, Turns, Memory}
use Rattle.serve_loop.specs.declared.done.Done.{Done}
use Rattle.serve_loop.specs.Serving.{Trace}
use Rattle.stack_prepare.specs.Layers.{IsFew}
use Rattle.strata_words.specs.declared.options.Line.{Line}
use Rattle.strata_words.specs.declared.options.Verb.{Verb}
use Rattle.strata_words.specs.CommandLine.{IsLineOf}
use Rattle.strata.specs.declared.faults.Fault.{Fault}
use Rattle.strata.specs.declared.faults.Fault.TheVariants.{Usage, RequestsFile, RepliesFile, BalancesFile, Bind, Accept, Images, InSession, Stopped}
use Rattle.strata.specs.Ending.{IsDoneOver, IsStoppedOver}
use Rattle.strata.specs.Faults.{IsOfImages, stop_status, status_of}
use Rattle.strata.specs.Sessions.{ServedSession}
use Rattle.strata_images.specs.declared.faults.ImagesFault.{ImagesFault}
use Rattle.strata_images.specs.declared.faults.ImagesFault.TheVariants as faults
use Rattle.strata_images.specs.Faults.{HasDigestFor, MayBeFarFor}
use Rattle.strata_images.specs.Images.{AreReadFor, profile_of}

-- there are none or too many, or one of them breaks a rule of the profile
abbrev pub AreBad : Profile → List (List ℕ) → Type 0
AreBad profile images = (¬ IsFew (length images)) ⊎ (¬ All (IsSound profile) images)

-- the arguments name as many images as these, which were read for them, and they are bad
pub record AreToBlame (words : List (List ℕ)) : Type 0 where
  pub line : Line
  pub images : List (List ℕ)
  pub line_is : IsLineOf words line
  pub read : AreReadFor line images
  pub bad : AreBad (profile_of line) images

-- the arguments name an image with this number and a digest for it, and it is not as sealed
pub record AreUnsealed (words : List (List ℕ)) (fault : Fault) : Type 0 where
  pub line : Line
  pub line_is : IsLineOf words line
  pub image : ℕ
  pub named : image < vec_len line.images
  pub digested : HasDigestFor line image
  pub told : fault ≡ Images (faults.Unsealed image)

-- the arguments name an image with this number, whose trailer was read and ends too far
pub record AreFar (words : List (List ℕ)) (fault : Fault) : Type 0 where
  pub line : Line
  pub line_is : IsLineOf words line
  pub image : ℕ
  pub named : image < vec_len line.images
  pub far : MayBeFarFor line image
  pub told : fault ≡ Images (faults.Far image)

-- a command ends over these images as it does over what is held of them
pub record EndsAlike (A : Type 0) (verb : Verb) (line : Line) (kept images : List (List ℕ))
    : Type 0 where
  pub done : (old new : Devices) → IsDoneOver A verb line kept old new
      → IsDoneOver A verb line images old new
  pub stopped : (old new : Devices) (fault : Fault) → IsStoppedOver A verb line kept fault old new
      → IsStoppedOver A verb line images fault old new

-- a session was served to its end
abbrev pub IsWhole : {A : Type 0} {first : Session} {by : Sourced} → ServedSession A first by
    → Type 0
IsWhole {A} s = (done : Done A) × (s.result ≡ Ok done)

-- of these sessions the first that stopped has this number, counted from 1, and stopped for this
pub record IsFirstStopped {A : Type 0} {first : Session} {by : Sourced}
    (served : List (ServedSession A first by)) (number : ℕ) (stop : StreamFault) : Type 0 where
  pub before : List (ServedSession A first by)
  pub stopped : ServedSession A first by
  pub after : List (ServedSession A first by)
  pub served_are : served ≡ before ++ stopped ∷ after
  pub number_is : number ≡ 1 + length before
  pub whole : AllByRecursion IsWhole before
  pub result_is : stopped.result ≡ Err stop

-- the fault names the first of these sessions that stopped, by its number, and why it did
abbrev pub IsOfFirstStopped : {A : Type 0} {first : Session} {by : Sourced}
    → List (ServedSession A first by) → Fault → Type 0
IsOfFirstStopped served fault =
    (number : ℕ) × (stop : StreamFault) × (fault ≡ InSession number stop)
    × IsFirstStopped served number stop

-- what the fault and the status of sessions mean: all were served, and to their end; or all were
-- served, and they are those of the first that stopped; or fewer were
pub record TellsOfSessions (A : Type 0) (first : Session) (by : Sourced)
    (count : ℕ) (fault : Option Fault) (status : ℕ) : Type 0 where
  pub served : List (ServedSession A first by)
  pub which :
      ((length served ≡ count) × (fault ≡ None) × (status ≡ 0) × AllByRecursion IsWhole served)
      ⊎ (((length served ≡ count) × (number : ℕ) × (stop : StreamFault)
      × (fault ≡ Some (InSession number stop)) × (status ≡ stop_status stop)
      × IsFirstStopped served number stop)
      ⊎ ((length served < count) × (fault ≡ Some Accept) × (status ≡ 1)))

-- a session met its end once, and neither side of it failed
pub record HasMetItsEnd (t : Trace) : Type 0 where
  pub ends : t.source.ends ≡ 1
  pub reads : t.source.failures ≡ 0
  pub writes : t.sink.failures ≡ 0

-- ---- which faults have which status

-- the fault says that serving, or a session, stopped for such a reason
abbrev pub IsStoppedSo : (StreamFault → Type 0) → Fault → Type 0
IsStoppedSo Is fault =
    (stop : StreamFault) × Is stop
    × ((fault ≡ Stopped stop) ⊎ ((session : ℕ) × (fault ≡ InSession session stop)))

-- the arguments are no command, or ask for help
abbrev pub IsOfWords : Fault → Type 0
IsOfWords (Usage text) = ⊤
IsOfWords _ = ⊥

-- a file could not be opened, created or read in full, a socket not bound or no client accepted
abbrev pub IsOfFiles : Fault → Type 0
IsOfFiles fault =
    IsOfImages (λ f. (image : ℕ) × (f ≡ faults.Unread image)) fault
    ⊎ ((fault ≡ RequestsFile) ⊎ ((fault ≡ RepliesFile) ⊎ ((fault ≡ BalancesFile)
    ⊎ ((fault ≡ Bind) ⊎ (fault ≡ Accept)))))

-- a device failed
abbrev pub IsOfStreams : StreamFault → Type 0
IsOfStreams stop = (stop ≡ Read) ⊎ (stop ≡ Write)

-- an image is broken or not as sealed, or its trailer ends too far; or there are none or too many
abbrev pub AreAtFault : ImagesFault → Type 0
AreAtFault fault =
    ((image : ℕ) × (broken : ImageFault) × (fault ≡ faults.Broken image broken))
    ⊎ (((count : ℕ) × (fault ≡ faults.Layers count))
    ⊎ (((image : ℕ) × (fault ≡ faults.Unsealed image))
    ⊎ ((image : ℕ) × (fault ≡ faults.Far image))))

-- the requests are no stream of messages, or do not end
abbrev pub IsOfRequests : StreamFault → Type 0
IsOfRequests stop =
    ((at : ℕ) × (len : ℕ) × (stop ≡ BadLength at len))
    ⊎ (((at : ℕ) × (stop ≡ CutOff at)) ⊎ (stop ≡ Turns))

-- a fault with the status 1, 2, 3, 4 or 5 is one of these
pub record HasStatusOf (fault : Fault) : Type 0 where
  pub files :
      status_of fault ≡ 1
      → IsOfFiles fault
      ⊎ (IsStoppedSo IsOfStreams fault ⊎ IsOfImages (λ f. f ≡ faults.Write) fault)
  pub words : status_of fault ≡ 2 → IsOfWords fault
  pub images : status_of fault ≡ 3 → IsOfImages AreAtFault fault
  pub requests : status_of fault ≡ 4 → IsStoppedSo IsOfRequests fault
  pub memory :
      status_of fault ≡ 5
      → IsStoppedSo (λ stop. stop ≡ Memory) fault ⊎ IsOfImages (λ f. f ≡ faults.Memory) fault
