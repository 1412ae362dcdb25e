-- How a run over an open /dev/fuse ends, by how its last step ended: done, or stopped with a fault, which means an unmount or not.
-- `has_stopped_there` is the main lemma: it has a case for each. `stays` and `goes` say what its status means; `ran_by` and `ran_without`
-- join it with what was read from the arguments.
use Rattle.std.proofs.Common.{◌≡◌, ◌≢◌, ◌∙◌, sym, ap, subst, refl, ℕ, Bool, true, false, inl, inr, List, Option, Some, None, Result, Ok, Err, if◌then◌else◌, true≢false}
use Rattle.std.specs.Io.Buffered.{reader_remaining}
use Rattle.devices.specs.Counting.{no_pulls, no_pushes}
use Rattle.devices.specs.States.{SourceState, SinkState, devices, source_state, sink_state}
use Rattle.serve_device.specs.declared.sink.ReplySpout.{ReplySpout}
use Rattle.serve_device.specs.declared.source.MessageTap.{MessageTap}
use Rattle.serve_device.specs.MountEnds.{MountEnds, ends}
use Rattle.serve_device.specs.Spouts.{spout_gone}
use Rattle.serve_device.specs.Taps.{buffered_of, tap_gone}
use Rattle.serve_loop.specs.declared.stream_fault.StreamFault.TheVariants as stops
use Rattle.strata.specs.declared.faults.Fault.{Fault}
use Rattle.strata.specs.declared.faults.Fault.TheVariants.{Usage, RequestsFile, RepliesFile, BalancesFile, Bind, Accept, Images, InSession, Stopped}
use Rattle.strata.specs.Faults.{status_of}
use Rattle.strata.specs.Sessions.{status_at}
use Rattle.strata.specs.Ending.{IsDone, EndsInFault, EndsWith, IsOfSessions, IsOver, IsOverWith}
use Rattle.strata_words.specs.declared.options.Line.{Line}
use Rattle.strata_words.specs.declared.options.NoLine.{NoLine}
use Rattle.strata_words.specs.CommandLine.{IsLineOf}
use Rattle.strata.specs.Ends.{EndStates, Given}
use Rattle.strata.specs.Mounts.{is_taken_away, mounted, status_on_device, EndsWithoutLine, IsReadOf, IsRunAsSaid, IsRunBy, StopsWhere, IsRunOnDevice, IsTakenAway}
use Rattle.strata.proofs.Ended.{fault_status}
use Rattle.strata.proofs.Statuses.{ends_for_words, zero_is_other}

module _ (A : Type 0) (words : List (List ℕ)) (old new : MountEnds) where
  -- what did what its words say is a run over the device with the status 0
  pub has_done_there : IsDone A words old.devices new.devices → IsRunOnDevice A words 0 old new
  has_done_there d = record { done = λ _. inl d; stopped = λ n. absurd (n refl); untouched = λ e. absurd (zero_is_other e) }

  module _ (status : ℕ) (fault : Fault) (stopped : EndsInFault A words fault old.devices new.devices) (status_is : status
      ≡ status_on_device fault new.input_gone new.output_gone) where
    stops_so : (taken_away : Bool) → is_taken_away fault new.input_gone new.output_gone ≡ taken_away
        → StopsWhere A words taken_away status old new
    stops_so taken_away whether = record { fault = fault; whether = whether; status_is = status_is; stopped = stopped }

    status_by : (taken_away : Bool) → is_taken_away fault new.input_gone new.output_gone ≡ taken_away
        → status ≡ (if taken_away then 0 else status_of fault)
    status_by taken_away whether = status_is ∙ ap (λ b. if b then 0 else status_of fault) whether

    by_whether : (taken_away : Bool) → is_taken_away fault new.input_gone new.output_gone ≡ taken_away
        → IsRunOnDevice A words status old new
    by_whether true whether =
        let zero : status ≡ 0 = status_by true whether in
        record {
          done = λ _. inr (stops_so true whether);
          stopped = λ n. absurd (n zero);
          untouched = λ two. absurd (zero_is_other (sym zero ∙ two));
        }
    by_whether false whether =
        let same : status ≡ status_of fault = status_by false whether in
        let ends : EndsWith A words status old.devices new.devices = record { fault = fault; status_is = same; stopped = stopped } in
        record {
          done = λ z. absurd (fault_status fault (sym same ∙ z));
          stopped = λ _. stops_so false whether;
          untouched = λ two. (ends_for_words A words old.devices new.devices
              (subst (λ n. EndsWith A words n old.devices new.devices) two ends)).1;
        }

    -- what ended in a fault is a run with the status that the fault has over the device
    pub has_stopped_there : IsRunOnDevice A words status old new
    has_stopped_there = by_whether (is_taken_away fault new.input_gone new.output_gone) refl

  -- no fault of sessions means an unmount
  told_there : (fault : Fault) (input output : Bool) → IsOfSessions fault → status_on_device fault input output ≡ status_of fault
  told_there fault input output (inl e) = subst (λ f. status_on_device f input output ≡ status_of f) (sym e) refl
  told_there fault input output (inr s) = subst (λ f. status_on_device f input output ≡ status_of f) (sym s.2) refl

  -- what did all its steps is a run over the device with its status
  pub has_ended_there : (status : ℕ) → IsOverWith A words status old.devices new.devices → IsRunOnDevice A words status old new
  has_ended_there status r = go r.fault r.status_is r.over
    where
      go : (fault : Option Fault) → status ≡ status_at fault → IsOver A words fault old.devices new.devices
          → IsRunOnDevice A words status old new
      go None e d = subst (λ n. IsRunOnDevice A words n old new) (sym e) (has_done_there d)
      go (Some fault) e s = has_stopped_there status fault s.1 (e ∙ sym (told_there fault new.input_gone new.output_gone s.0))

  -- ---- what its status means

  -- if it stopped and there was no unmount, the status means what it means over streams
  pub stays : (status : ℕ) → IsRunOnDevice A words status old new → status ≢ 0 → EndsWith A words status old.devices new.devices
  stays status r n =
      let s = r.stopped n in
      record {
        fault = s.fault;
        status_is = s.status_is ∙ ap (λ b. if b then 0 else status_of s.fault) s.whether;
        stopped = s.stopped;
      }

  away_by : (fault : Fault) (input output : Bool) → is_taken_away fault input output ≡ true
      → EndsInFault A words fault old.devices new.devices → IsTakenAway A words old.devices new.devices
  away_by (Stopped stops.Read) input output e s = record { stop = stops.Read; stream = inl refl; ended = s }
  away_by (Stopped stops.Write) input output e s = record { stop = stops.Write; stream = inr refl; ended = s }
  away_by (Stopped (stops.BadLength at len)) input output e s = absurd (true≢false (sym e))
  away_by (Stopped (stops.CutOff at)) input output e s = absurd (true≢false (sym e))
  away_by (Stopped stops.Turns) input output e s = absurd (true≢false (sym e))
  away_by (Stopped stops.Memory) input output e s = absurd (true≢false (sym e))
  away_by (Usage text) input output e s = absurd (true≢false (sym e))
  away_by RequestsFile input output e s = absurd (true≢false (sym e))
  away_by RepliesFile input output e s = absurd (true≢false (sym e))
  away_by BalancesFile input output e s = absurd (true≢false (sym e))
  away_by Bind input output e s = absurd (true≢false (sym e))
  away_by Accept input output e s = absurd (true≢false (sym e))
  away_by (Images fault) input output e s = absurd (true≢false (sym e))
  away_by (InSession session stop) input output e s = absurd (true≢false (sym e))

  -- after an unmount the status is 0, and a read or a write failed
  pub goes : (status : ℕ) → StopsWhere A words true status old new → (status ≡ 0) × IsTakenAway A words old.devices new.devices
  goes status s = (
    s.status_is ∙ ap (λ b. if b then 0 else status_of s.fault) s.whether,
    away_by s.fault new.input_gone new.output_gone s.whether s.stopped,
  )

-- ---- devices that were not used before

abbrev both_ends : SourceState → SinkState → Bool → Bool → MountEnds
both_ends source sink input output = record { devices = devices source sink; input_gone = input; output_gone = output }

same_ends : {s t : SourceState} {j k : SinkState} {a b x y : Bool} → s ≡ t → j ≡ k → a ≡ b → x ≡ y → both_ends s j a x ≡ both_ends t k b y
same_ends {s} {t} {j} {k} {a} {b} {x} {y} e f g h =
    ap (λ v. both_ends v j a x) e ∙ ap (λ v. both_ends t v a x) f ∙ ap (λ v. both_ends t k v x) g ∙ ap (λ v. both_ends t k b v) h

-- new devices are those of an open /dev/fuse that was not used before
pub new_ends : {R A W : Type 0} (remaining : R → Option (List ℕ)) (tap : MessageTap R A) (spout : ReplySpout W) (left : Option (List ℕ))
    → source_state (reader_remaining remaining (buffered_of tap)) tap.counts ≡ source_state left no_pulls → tap_gone tap ≡ false
    → sink_state None spout.counts ≡ sink_state None no_pushes → spout_gone spout ≡ false
    → ends remaining tap spout ≡ mounted left
new_ends remaining tap spout left s a k x = same_ends s k a x

module _ (A : Type 0) (words : List (List ℕ)) (read : Result Line NoLine) where
  -- a line was read from the arguments, and the program ran by it
  pub ran_by : (line : Line) (given : Given) (status : ℕ) (ends : EndStates A) → read ≡ Ok line
      → ((all : List (List ℕ)) → IsLineOf all line → IsRunBy A all line given status ends) → IsReadOf words read
      → IsRunAsSaid A words given status ends
  ran_by line given status ends e ran is =
      let named : IsLineOf words line = subst (λ r. IsReadOf words r) e is in
      record { read = Ok line; by = (named, ran words named) }

  -- the arguments have no line, and the program ended for that
  pub ran_without : (no_line what : NoLine) (given : Given) (status : ℕ) (ends : EndStates A) → read ≡ Err no_line → no_line ≡ what
      → EndsWithoutLine what given status ends → IsReadOf words read → IsRunAsSaid A words given status ends
  ran_without no_line what given status ends e same ended is =
      record { read = Err what; by = (subst (λ r. IsReadOf words r) (e ∙ ap Err same) is, ended) }
