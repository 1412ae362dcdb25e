-- A stream over a table: what the serving loop says about it, as what was served over a stack.
use Rattle.std.proofs.Common.{◌≡◌, ◌∙◌, ap, subst, ℕ, List, map, Result, Ok, Err}
use Rattle.devices.specs.States.{Devices}
use Rattle.stack_model.specs.Listing.{Stacked}
use Rattle.devices.specs.Sources.{Source}
use Rattle.reply_model.specs.declared.session.Session.{Session}
use Rattle.reply_model.specs.Readings.{Sourced, sourced}
use Rattle.reply_pool.specs.Answers.{answering_from}
use Rattle.serve_loop.specs.declared.done.Done.{Done}
use Rattle.serve_loop.specs.declared.opening.Begun.{Begun}
use Rattle.serve_loop.specs.declared.opening.Opening.{Opening}
use Rattle.serve_loop.specs.declared.opening.Opening.TheVariants as openings
use Rattle.serve_loop.specs.declared.opening.Until.{Until}
use Rattle.serve_loop.specs.declared.opening.Until.TheVariants as wanted
use Rattle.serve_loop.specs.declared.stream_fault.StreamFault.{StreamFault}
use Rattle.serve_loop.specs.Serving.{Does}
use Rattle.serve_loop.specs.Opening.{IsServedUntil}
use Rattle.serve_core.specs.Headline.{Bounds, RunsWithin, bounds}
use Rattle.serve_core.specs.Openings.{RunsUntil}

-- the same stack with the same files gives the same
pub same_served : {D : Type 0} (source : D → Source) (stack other : Stacked) (files more : List D) → stack ≡ other → files ≡ more
    → sourced stack (map source files) ≡ sourced other (map source more)
same_served source stack other files more e f =
    ap (λ s. sourced s (map source files)) e ∙ ap (λ fs. sourced other (map source fs)) f

-- what the loop says of a stream that begins in this session, over a stack and its sources
abbrev pub Loops : {A : Type 0} → Until → Bounds → Result (Opening A) StreamFault → Devices → Devices → Session → Sourced → Type 0
Loops until within result old new first by =
    Does (λ t. IsServedUntil until (answering_from first by) within.counted within.turns t result) old new

-- with lookups of this many nodes counted
abbrev counting : Bounds → ℕ → Bounds
counting within counted = bounds within.turns counted

module _ {A : Type 0} (until : Until) (within : Bounds) (old new : Devices) where
  -- the same of the session, the stack and the number of nodes that a pool was made of
  pub looped_by : (result : Result (Opening A) StreamFault) (first second : Session) (over by : Sourced) (counted : ℕ) → first ≡ second
      → over ≡ by → counted ≡ within.counted → Loops until (counting within counted) result old new first over
      → Loops until within result old new second by
  looped_by result first second over by counted e same as_many o =
      subst (λ n. Loops until (counting within n) result old new second by) as_many
      (subst (λ b. Loops until (counting within counted) result old new second b) same
      (subst (λ s. Loops until (counting within counted) result old new s over) e o))

module _ {A : Type 0} (within : Bounds) (old new : Devices) (first : Session) (by : Sourced) where
  -- a run to its end ended
  pub ran_to_end : (done : Done A) → RunsUntil wanted.End first by within (Ok (openings.Ended done)) old new
      → RunsWithin first by within (Ok done) old new
  ran_to_end done r = record { run = r.run; end = r.end; at_once = λ none. (let e = r.at_once none in absurd (cc)) }

  -- or stopped
  pub ran_until_stopped : (fault : StreamFault) → RunsUntil {A = A} wanted.End first by within (Err fault) old new
      → RunsWithin {A = A} first by within (Err fault) old new
  ran_until_stopped fault r = record { run = r.run; end = tt; at_once = λ none. (let e = r.at_once none in cc) }

  -- and did not end as its session began
  pub ran_on : (begun : Begun A) → RunsUntil wanted.End first by within (Ok (openings.Begun begun)) old new → ⊥
  ran_on begun r = r.run.4
