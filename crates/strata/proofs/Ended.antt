-- How a command ends, by how its last step ended. `whole` and `begun` join what was done over the images with the arguments that asked for
-- it; `unread` is the end before that, and no fault has the status 0.
use Rattle.std.proofs.Common.{◌≡◌, ◌≢◌, ◌≤◌, sym, subst, refl, ℕ, inl, inr, List, None, Result, Ok, Err, IfOk, IfErr, OnOk, MatchResult, IsErrAnd, arith}
use Rattle.serve_loop.specs.declared.stream_fault.StreamFault.{StreamFault}
use Rattle.serve_loop.specs.declared.stream_fault.StreamFault.TheVariants as stops
use Rattle.strata_words.specs.declared.options.Line.{Line}
use Rattle.strata_words.specs.declared.options.Verb.{Verb}
use Rattle.strata_words.specs.CommandLine.{IsLineOf}
use Rattle.devices.specs.States.{Devices}
use Rattle.strata_images.specs.declared.faults.ImagesFault.{ImagesFault}
use Rattle.strata_images.specs.declared.faults.ImagesFault.TheVariants as faults
use Rattle.strata_images.specs.Faults.{AreUnread, status_of as images_status}
use Rattle.strata_images.specs.Images.{AreReadFor}
use Rattle.strata.specs.declared.faults.Fault.{Fault}
use Rattle.strata.specs.declared.faults.Fault.TheVariants.{Usage, RequestsFile, RepliesFile, BalancesFile, Bind, Accept, Images, InSession, Stopped}
use Rattle.strata.specs.Faults.{status_of, stop_status}
use Rattle.strata.specs.Ending.{IsDoneOver, IsStoppedOver, IsDone, EndsInFault, IsOverWith}

-- what the words say, over the images that were read
module _ (A : Type 0) (words : List (List ℕ)) (line : Line) (images : List (List ℕ)) (verb : Verb) (old new : Devices)
    (line_is : IsLineOf words line) (read : AreReadFor line images) (verb_is : line.verb ≡ verb) where
  -- a command did it
  pub whole : IsDoneOver A verb line images old new → IsDone A words old new
  whole d = record {
    line = line;
    images = images;
    line_is = line_is;
    read = read;
    done = subst (λ v. IsDoneOver A v line images old new) (sym verb_is) d;
  }

  -- a command that did its work is over with the status 0
  pub did : IsDoneOver A verb line images old new → IsOverWith A words 0 old new
  did d = record { fault = None; status_is = refl; over = whole d }

  -- a command began it and stopped
  pub begun : (fault : Fault) → IsStoppedOver A verb line images fault old new → EndsInFault A words fault old new
  begun fault p = inr (record {
    line = line;
    images = images;
    line_is = line_is;
    read = read;
    stopped = subst (λ v. IsStoppedOver A v line images fault old new) (sym verb_is) p;
  })

  -- a command whose work gave this result has ended so, with the status 0 if it was done
  pub ended : {E Done : Type 0} {Stopped : E → Type 0} (told : E → Fault) (work : Result (Unit {0}) E) (r : Result ℕ Fault)
      → MatchResult work (λ _. r ≡ Ok 0) (λ fault. r ≡ Err (told fault)) → OnOk work Done → IfErr work Stopped
      → (Done → IsDoneOver A verb line images old new)
      → ((fault : E) → Stopped fault → IsStoppedOver A verb line images (told fault) old new)
      → IfOk r (λ status. IsOverWith A words status old new) × IfErr r (λ fault. EndsInFault A words fault old new)
  ended told (Ok u) r same done stopped d s =
      subst (λ r. IfOk r (λ status. IsOverWith A words status old new) × IfErr r (λ fault. EndsInFault A words fault old new)) (sym same)
      (did (d done), tt)
  ended told (Err fault) r same done stopped d s =
      subst (λ r. IfOk r (λ status. IsOverWith A words status old new) × IfErr r (λ fault. EndsInFault A words fault old new)) (sym same)
      (tt, begun (told fault) (s fault stopped))

-- an image that was not read, or memory that ran out before all were
pub unread : {X : Type 0} {words : List (List ℕ)} {line : Line} (A : Type 0) (old : Devices) → IsLineOf words line → (fault : ImagesFault)
    → AreUnread line fault → (r : Result X Fault) → IsErrAnd r (λ told. told ≡ Images fault)
    → IfErr r (λ told. EndsInFault A words told old old)
unread A old l fault f (Ok u) e = absurd e
unread {line = line} A old l fault f (Err told) e =
    inl (record { kept = refl; which = inr (record { line = line; line_is = l; unread = (fault, e, f) }) })

-- a status that a fault ends the program with
abbrev pub IsStatus : ℕ → Type 0
IsStatus n = (1 ≤ n) × (n ≤ 5)

stop_range : (stop : StreamFault) → IsStatus (stop_status stop)
stop_range (stops.BadLength at len) = (omega arith, omega arith)
stop_range (stops.CutOff at) = (omega arith, omega arith)
stop_range stops.Read = (omega arith, omega arith)
stop_range stops.Write = (omega arith, omega arith)
stop_range stops.Turns = (omega arith, omega arith)
stop_range stops.Memory = (omega arith, omega arith)

images_range : (fault : ImagesFault) → IsStatus (images_status fault)
images_range (faults.Unread image) = (omega arith, omega arith)
images_range (faults.Unsealed image) = (omega arith, omega arith)
images_range (faults.Far image) = (omega arith, omega arith)
images_range (faults.Broken image fault) = (omega arith, omega arith)
images_range (faults.Layers count) = (omega arith, omega arith)
images_range faults.Write = (omega arith, omega arith)
images_range faults.Memory = (omega arith, omega arith)

-- each fault has one of them
pub fault_range : (fault : Fault) → IsStatus (status_of fault)
fault_range (Usage text) = (omega arith, omega arith)
fault_range RequestsFile = (omega arith, omega arith)
fault_range RepliesFile = (omega arith, omega arith)
fault_range BalancesFile = (omega arith, omega arith)
fault_range Bind = (omega arith, omega arith)
fault_range Accept = (omega arith, omega arith)
fault_range (Images fault) = images_range fault
fault_range (InSession session stop) = stop_range stop
fault_range (Stopped stop) = stop_range stop

-- no fault has the status 0
pub fault_status : (fault : Fault) → status_of fault ≢ 0
fault_status fault e = let range = fault_range fault in omega (arith, range.0, e)
