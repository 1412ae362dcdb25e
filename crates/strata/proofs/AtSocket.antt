-- How the command `socket` ends, by how its sessions ended. `over_there` is about a command that did all its steps, whatever its sessions
-- stopped for, and `stopped_there` about one that could not serve any; `unbound` says why no socket was bound.
use Rattle.std.proofs.Common.{◌≡◌, refl, ℕ, ◌⊎◌, inl, inr, List, Option, Some, None, Result, Ok, Err, IfOk, IfErr}
use Rattle.strata_words.specs.declared.options.Line.{Line}
use Rattle.strata_words.specs.declared.options.Verb.TheVariants.{Socket}
use Rattle.strata_words.specs.CommandLine.{IsLineOf}
use Rattle.devices.specs.States.{Devices}
use Rattle.strata.specs.declared.faults.Fault.{Fault}
use Rattle.strata.specs.Sessions.{status_at}
use Rattle.strata_images.specs.Images.{AreNotStacked, AreReadFor, profile_of}
use Rattle.strata.specs.Faults.{IsOfImages}
use Rattle.strata.specs.Ending.{EndsAtSocket, EndsInFault, IsNotBound, IsOfSessions, IsOverWith, IsServedAtSocket}
use Rattle.strata.proofs.Ended.{begun, whole}
use Rattle.strata.proofs.InTurn.{of_sessions}

-- why no socket was bound is one of the reasons for which none serves
pub unbound : (P : Fault → Type 0) (line : Line) (images : List (List ℕ)) (r : Result ℕ Fault) → IfErr r (IsNotBound line images)
    → IfErr r (λ fault. P fault ⊎ IsNotBound line images fault)
unbound P line images (Ok status) e = e
unbound P line images (Err fault) e = inr e

told_by : {A : Type 0} (line : Line) (images : List (List ℕ)) (fault : Fault) → IsServedAtSocket A line images (Some fault)
    → IsOfSessions fault
told_by {A} line images fault s =
    elim (of_sessions {A = A} line.sessions fault s.served) [
      | inl accept ↦ inl accept
      | inr t ↦ inr (t.0, t.1, t.2)
    ]

module _ (A : Type 0) (words : List (List ℕ)) (line : Line) (images : List (List ℕ)) (old : Devices) (line_is : IsLineOf words line)
    (read : AreReadFor line images) (verb_is : line.verb ≡ Socket) where
  over_with : (status : ℕ) (fault : Option Fault) → status ≡ status_at fault → IsServedAtSocket A line images fault
      → IsOverWith A words status old old
  over_with status None e s = record {
    fault = None;
    status_is = e;
    over = whole A words line images Socket old old line_is read verb_is (refl, s);
  }
  over_with status (Some fault) e s = record {
    fault = Some fault;
    status_is = e;
    over = (told_by {A = A} line images fault s, begun A words line images Socket old old line_is read verb_is fault (refl, inr (inr s)));
  }

  -- a command whose sessions ended with a status is over with this status
  pub over_there : (r : Result ℕ Fault) → IfOk r (λ status. EndsAtSocket A line images status)
      → IfOk r (λ status. IsOverWith A words status old old)
  over_there (Ok status) e = over_with status e.fault e.status_is e.served
  over_there (Err fault) e = e

  -- if images were not stacked or no socket was bound, the command ended in that fault
  pub stopped_there : (r : Result ℕ Fault)
      → IfErr r (λ fault. IsOfImages (AreNotStacked (profile_of line) images) fault ⊎ IsNotBound line images fault)
      → IfErr r (λ fault. EndsInFault A words fault old old)
  stopped_there (Ok status) e = e
  stopped_there (Err fault) (inl e) = begun A words line images Socket old old line_is read verb_is fault (refl, inl e)
  stopped_there (Err fault) (inr e) = begun A words line images Socket old old line_is read verb_is fault (refl, inr (inl e))
