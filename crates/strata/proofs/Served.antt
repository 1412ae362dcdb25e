-- What serving left, by the devices that it used. The first lemmas say which device was touched, with a file instead of it or not, and
-- `served_as` joins them; the others derive how `serve` ended: stopped, complete, or complete except for its balances.
use Rattle.std.proofs.Common.{◌≡◌, ◌∙◌, sym, ap, refl, subst, ℕ, ◌⊎◌, inl, inr, List, Option, None, Some, is_some, true, false, true≢false, Result, Ok, Err, OnOk, IfErr, IsErrAnd}
use Rattle.strata_words.specs.declared.options.Line.{Line}
use Rattle.reply_model.specs.Readings.{Sourced}
use Rattle.serve_loop.specs.declared.stream_fault.StreamFault.{StreamFault}
use Rattle.serve_loop.specs.declared.done.Done.{Done}
use Rattle.devices.specs.States.{Devices, SourceState, SinkState}
use Rattle.serve_loop.specs.Serving.{Trace, trace}
use Rattle.devices.specs.declared.limits.TheConstants.{MAX_TURNS}
use Rattle.reply_model.specs.declared.session.Session.{Session}
use Rattle.serve_core.specs.declared.terms.Counted.{Counted}
use Rattle.serve_core.specs.Headline.{IsRunWithin, RunsWithin, bounds_over}
use Rattle.strata.specs.declared.faults.Fault.{Fault}
use Rattle.strata.specs.declared.faults.Fault.TheVariants.{Images, Stopped}
use Rattle.strata_images.specs.declared.faults.ImagesFault.{ImagesFault}
use Rattle.strata_images.specs.Images.{AreNotStacked, ArePrepared, profile_of}
use Rattle.strata.specs.Faults.{out_of_memory, write_failed}
use Rattle.strata.specs.Ending.{counted_of, first_of, AreNew, Gave, Took, Asks, GetsReplies, IsServing, IsServedWhole, IsNotServed, IsFileFault}

-- if there is a file, one is named
no_file : {F G : Type 0} (named : Option F) (file : Option G) (x : G) → is_some file ≡ is_some named → file ≡ Some x → named ≡ None → ⊥
no_file named file x same some none = true≢false (ap is_some (sym some) ∙ same ∙ ap is_some none)

-- without a file, none is named
no_name : {F G : Type 0} (named : Option F) (file : Option G) → is_some file ≡ is_some named → file ≡ None → is_some named ≡ true → ⊥
no_name named file same none some = true≢false (sym some ∙ sym same ∙ ap is_some none)

-- without a file for them the requests came from the input, which gave them
pub from_input : {F G X E : Type 0} (named : Option F) (file : Option G) (t : Trace) (result : Result X E) (old new : SourceState)
    → is_some file ≡ is_some named → file ≡ None → Gave t result old new → Asks named t result old new
from_input named file t result old new same none gave =
    record { gave = λ _. gave; kept = λ some. absurd (no_name named file same none some) }

-- requests that came from a file left the input unchanged
pub from_file : {F G X E : Type 0} (named : Option F) (file : Option G) (x : G) (t : Trace) (result : Result X E) (old : SourceState)
    → is_some file ≡ is_some named → file ≡ Some x → Asks named t result old old
from_file named file x t result old same some = record { gave = λ none. absurd (no_file named file x same some none); kept = λ _. refl }

-- without a file for them the replies were written to the output, which took them
pub to_output : {F G : Type 0} (named : Option F) (file : Option G) (t : Trace) (old new : SinkState)
    → is_some file ≡ is_some named → file ≡ None → Took t old new → GetsReplies named t old new
to_output named file t old new same none took = record { took = λ _. took; kept = λ some. absurd (no_name named file same none some) }

-- replies that were written to a file left the output unchanged
pub to_file : {F G : Type 0} (named : Option F) (file : Option G) (x : G) (t : Trace) (old : SinkState)
    → is_some file ≡ is_some named → file ≡ Some x → GetsReplies named t old old
to_file named file x t old same some = record { took = λ none. absurd (no_file named file x same some none); kept = λ _. refl }

-- a run between devices that were not used before served a stream as the line says, if they are the input and the output, or files of the
-- line instead
pub served_as : {A : Type 0} (line : Line) (by : Sourced) (first : Session) (counted : Counted) (result : Result (Done A) StreamFault)
    (used left old new : Devices) → first ≡ first_of line → counted ≡ counted_of line → AreNew used
    → RunsWithin first by (bounds_over MAX_TURNS counted by) result used left
    → ((t : Trace) → Gave t result used.source left.source → Asks line.requests t result old.source new.source)
    → ((t : Trace) → Took t used.sink left.sink → GetsReplies line.replies t old.sink new.sink)
    → (t : Trace) × IsServing line by t result old new
served_as line by first counted result used left old new f c fresh ran asks gets =
    let does = ran.run in
    let t : Trace = trace does.0 does.1 used.source.counts left.source.counts used.sink.counts left.sink.counts in
    let run : IsRunWithin (first_of line) by (bounds_over MAX_TURNS (counted_of line) by) t result =
    subst (λ n. IsRunWithin (first_of line) by (bounds_over MAX_TURNS n by) t result) c
    (subst (λ s. IsRunWithin s by (bounds_over MAX_TURNS counted by) t result) f does.4) in (
      t,
      record {
        session = record { run = run; first_pull = fresh.pulls; first_push = fresh.pushes };
        asks = asks t (record { got = does.2; counts = refl; all = ran.end });
        gains = gets t (record { put = does.3; counts = refl });
      },
    )

module _ (A : Type 0) (line : Line) (images : List (List ℕ)) (old new : Devices) where
  -- a file could not be opened or created, and no device was touched
  pub unopened : (fault : Fault) (told : Result (Unit {0}) Fault) → IsFileFault line fault old new → IsErrAnd told (λ f. f ≡ fault)
      → IfErr told (λ f. IsNotServed A line images f old new)
  unopened fault (Ok u) w f = absurd f
  unopened fault (Err told) w f = inl (subst (λ x. IsFileFault line x old new) (sym f) w)

  -- the images were refused
  pub refused : (why : ImagesFault) (told : Result (Unit {0}) Fault) → AreNotStacked (profile_of line) images why → new ≡ old
      → IsErrAnd told (λ fault. fault ≡ Images why) → IfErr told (λ fault. IsNotServed A line images fault old new)
  refused why (Ok u) r k f = absurd f
  refused why (Err fault) r k f = inr (inl ((why, f, r), k))

  module _ (by : Sourced) (prepared : ArePrepared line images by) where
    -- serving stopped
    pub stopped : (r : Result (Done A) StreamFault) (stop : StreamFault) (told : Result (Unit {0}) Fault)
        → (t : Trace) × IsServing line by t r old new → r ≡ Err stop
        → IsErrAnd told (λ fault. fault ≡ Stopped stop) → IfErr told (λ fault. IsNotServed A line images fault old new)
    stopped r stop (Ok u) s e f = absurd f
    stopped r stop (Err fault) s e f = inr (inr (inl (record {
      by = by;
      prepared = prepared;
      trace = s.0;
      stop = stop;
      told = f;
      serving = subst (λ v. IsServing line by s.0 v old new) e s.1;
    })))

    -- serving reached its end, whatever happened to the balances
    pub whole : (r : Result (Done A) StreamFault) (done : Done A) → (t : Trace) × IsServing line by t r old new → r ≡ Ok done
        → IsServedWhole A line images old new
    whole r done s e = record {
      by = by;
      prepared = prepared;
      trace = s.0;
      done = done;
      serving = subst (λ v. IsServing line by s.0 v old new) e s.1;
    }

  -- a stream that was served to its end but whose balances were not written is not served
  pub lost : {F : Type 0} (file : Option F) (told : Result (Unit {0}) Fault) → IsServedWhole A line images old new
      → is_some file ≡ is_some line.balances
      → IfErr told (λ fault. (is_some file ≡ true) × ((fault ≡ write_failed) ⊎ (fault ≡ out_of_memory)))
      → IfErr told (λ fault. IsNotServed A line images fault old new)
  lost file (Ok u) w same l = l
  lost file (Err fault) w same l = inr (inr (inr (record { named = sym same ∙ l.0; told = l.1; served = w })))

  -- a stream is served to its end if its balances are written
  pub in_time : (told : Result (Unit {0}) Fault) → IsServedWhole A line images old new → OnOk told (IsServedWhole A line images old new)
  in_time (Ok u) w = w
  in_time (Err fault) w = tt
