-- What each end of a stream means to a caller, drawn from the one promise of a run (`IsRun`):
-- `ends` are those at which all is answered, `faults` say which device failed, and `always` holds
-- at every end.
use Rattle.std.proofs.Common.{◌≡◌, ◌↔◌, subst, ℕ, ◌+◌, List, [], Result, Ok, Err, refl, arith}
use Rattle.fuse_wire.specs.Stream.{IsSplit}
use Rattle.fuse_wire.proofs.Splits.{one_split}
use Rattle.serve_loop.specs.Rounds.{Answering}
use Rattle.serve_loop.specs.declared.stream_fault.StreamFault.{StreamFault}
use Rattle.serve_loop.specs.declared.stream_fault.StreamFault.TheVariants.{BadLength, CutOff, Read, Write, Turns}
use Rattle.serve_loop.specs.declared.done.Done.{Done}
use Rattle.serve_loop.specs.Serving.{Trace, IsAllTold, IsPrompt, IsRun, HaveReplies, flushed_bytes, before, read_failures, write_failures}
use Rattle.serve_loop.specs.Laws.{HasAnsweredAll, HasServed, HasBadLength, IsCutOff, HasFailed, HasUsedTurns, IsFront}

answered : (by : Answering) (t : Trace) (messages : List (List ℕ)) (rest : List ℕ) → IsSplit t.got messages rest → IsAllTold by t messages
    → HasAnsweredAll by t messages rest
answered by t messages rest s a = record { split = s; put = a.put; flushed_all = a.flushed_all }

module _ {A : Type 0} (by : Answering) (nodes turns : ℕ) (t : Trace) where
  -- a run that ends with `Ok` has answered a stream of complete messages
  pub served : (done : Done A) → IsRun by nodes turns t (Ok done) → HasServed by nodes t done
  served done r = record {
    ended = r.served.ended;
    messages = r.messages;
    answered = answered by t r.messages [] (subst (λ x. IsSplit t.got r.messages x) r.served.all_read r.split) r.served.told;
    counted = r.served.counted;
    written = r.served.written;
    balanced = r.served.balanced;
  }

  -- a run that ends with `BadLength` has answered all messages before that place
  pub has_bad : (at len : ℕ) → IsRun {A = A} by nodes turns t (Err (BadLength at len)) → HasBadLength by t at len
  has_bad at len r = record {
    messages = r.messages;
    rest = r.rest;
    answered = answered by t r.messages r.rest r.split r.stopped.2;
    place = r.stopped.1;
    bad = r.stopped.0;
  }

  -- a run that ends with `CutOff` has answered all messages before that place
  pub is_cut : (at : ℕ) → IsRun {A = A} by nodes turns t (Err (CutOff at)) → IsCutOff by t at
  is_cut at r = record {
    ended = r.stopped.0;
    messages = r.messages;
    rest = r.rest;
    answered = answered by t r.messages r.rest r.split r.stopped.3;
    place = r.stopped.2;
    cut = r.stopped.1;
  }

  -- a run that ends with `Read` has answered all messages before the failure
  pub well_at_read : IsRun {A = A} by nodes turns t (Err Read) → HasFailed by t
  well_at_read r = record {
    failed = r.stopped.0;
    messages = r.messages;
    rest = r.rest;
    answered = answered by t r.messages r.rest r.split r.stopped.1;
  }

  -- a run that ends with `Turns` has made all its pulls, and answered all messages that arrived
  pub well_at_turns : IsRun {A = A} by nodes turns t (Err Turns) → HasUsedTurns by turns t
  well_at_turns r = record {
    pulls = r.stopped.0;
    messages = r.messages;
    rest = r.rest;
    answered = answered by t r.messages r.rest r.split r.stopped.2;
    good = r.stopped.1;
  }

  -- at every end what was put is a prefix of the replies
  pub front : (result : Result (Done A) StreamFault) → IsRun by nodes turns t result → IsFront by t
  front result r = record { messages = r.messages; rest = r.rest; split = r.split; begun = r.begun }

  -- at every end all replies to what was got before the last pull are flushed
  pub prompt : (result : Result (Done A) StreamFault) → IsRun by nodes turns t result → IsPrompt by t
  prompt result r = r.prompt

  -- and that is all replies to the messages into which it is cut, in the one way there is
  pub all_flushed : (result : Result (Done A) StreamFault) (messages : List (List ℕ)) (rest : List ℕ)
      → IsRun by nodes turns t result → IsSplit (before t) messages rest
      → HaveReplies by messages (flushed_bytes t)
  all_flushed result messages rest r s = subst (λ m. HaveReplies by m (flushed_bytes t))
      (one_split (before t) r.prompt.messages messages r.prompt.rest rest r.prompt.split s).0 r.prompt.told

-- a count rose by one exactly if the result says so
read_told : {A : Type 0} (r : Result (Done A) StreamFault) (old new : ℕ) → new ≡ old + read_failures r → (r ≡ Err Read) ↔ (new ≡ old + 1)
read_told (Err Read) old new e = (λ _. e, λ _. refl)
read_told _ old new e = (λ q. absurd (cc), λ f. absurd (omega arith))

write_told : {A : Type 0} (r : Result (Done A) StreamFault) (old new : ℕ) → new ≡ old + write_failures r → (r ≡ Err Write) ↔ (new ≡ old + 1)
write_told (Err Write) old new e = (λ _. e, λ _. refl)
write_told _ old new e = (λ q. absurd (cc), λ f. absurd (omega arith))

module _ {A : Type 0} (by : Answering) (nodes turns : ℕ) (t : Trace) (result : Result (Done A) StreamFault)
    (r : IsRun by nodes turns t result)
  where
    -- a run ends with `Read` exactly if the source failed once in it
    pub read_is_exact : (result ≡ Err Read) ↔ (t.source.failures ≡ t.source_before.failures + 1)
    read_is_exact = read_told result t.source_before.failures t.source.failures r.counted.read

    -- a run ends with `Write` exactly if the sink failed once in it
    pub write_is_exact : (result ≡ Err Write) ↔ (t.sink.failures ≡ t.sink_before.failures + 1)
    write_is_exact = write_told result t.sink_before.failures t.sink.failures r.counted.write

-- the ends at which all is answered
pub ruleset ends = (served, has_bad, is_cut, well_at_read, well_at_turns)

-- which device failed
pub ruleset faults = (read_is_exact, write_is_exact)

-- what holds at every end
pub ruleset always = (front, prompt)
