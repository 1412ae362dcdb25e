-- A stream served turn by turn. What holds before a turn (`IsRunning`) holds before the next: a pull gives bytes (`fed`), and what is
-- complete is answered (`went_round`). Each other lemma is an end of the run, and says that it keeps the one promise (`IsRun`).
use Rattle.std.proofs.Common.{◌≡◌, ◌∙◌, sym, ap, subst, ℕ, ◌+◌, ◌^◌, ◌<◌, ◌≤◌, inl, inr, ℤ, List, [], ◌++◌, length, refl, arith, length-append, append_assoc, append-nil, Result, Ok, Err, Some}
use Rattle.devices.specs.declared.limits.TheConstants.{PULL_SIZE}
use Rattle.fuse_wire.specs.Stream.{IsBad, IsOpen, IsRest, IsSplit}
use Rattle.fuse_wire.proofs.Splits.{some_split}
use Rattle.devices.specs.declared.failed.Failed.{Failed}
use Rattle.devices.specs.declared.counts.LastPull.TheVariants.{Bytes, End}
use Rattle.devices.specs.declared.counts.Pulls.{Pulls}
use Rattle.devices.specs.declared.counts.Pushes.{Pushes}
use Rattle.devices.specs.Counting.{pulled}
use Rattle.devices.specs.Pushing.{HasFlushed}
use Rattle.serve_loop.specs.Rounds.{Answering, joined}
use Rattle.serve_loop.proofs.Walking.{messages_on, joined_append, both}
use Rattle.serve_loop.specs.declared.stream_fault.StreamFault.{StreamFault}
use Rattle.serve_loop.specs.declared.stream_fault.StreamFault.TheVariants.{BadLength, CutOff, Read, Write, Turns, Memory}
use Rattle.serve_loop.specs.declared.done.Done.{Done}
use Rattle.serve_loop.specs.Serving.{Trace, all_but, last_size, before, flushed_bytes, AreRepliesTo, BeginReplies, moves_of, IsAllTold, AreBalances, IsStopped, ends_met, read_failures, write_failures, IsCounted, IsPrompt, IsRun}
use Rattle.serve_loop.specs.Steps.{ServingState, IsSmall, Goes, Halts, sink_failures}
use Rattle.serve_loop.proofs.Rounding.{goes_further, goes_nowhere, not_late}
use Rattle.serve_loop.proofs.Traces.{start, untouched, pulled_on, pushed_on, IsLow, IsRunning, IsFed, some_counted, end_counted, failure_counted, take_none, take_whole, all_but_last, flushed_late, flushed_more, all_begun, no_bytes, unfinished, zero_more, from_nothing}

-- replies to all messages that were put in full are begun
all_put : (by : Answering) (ms : List (List ℕ)) (put : List ℕ) → AreRepliesTo by ms put → BeginReplies by ms put
all_put by ms put are = record {
  answered = ms;
  later = [];
  messages_are = sym (append-nil ms);
  replies = put;
  are = are;
  begun = all_begun put put refl;
}

module _ (by : Answering) (nodes : ℕ) where
  replies_of : (t : Trace) (v : ServingState) (ms : List (List ℕ)) → Goes by (start by.first nodes t.got) v ms t.put
      → AreRepliesTo by ms t.put
  replies_of t v ms g = g.answered.told

  all_told : (t : Trace) (v : ServingState) (ms : List (List ℕ)) → Goes by (start by.first nodes t.got) v ms t.put → flushed_bytes t ≡ t.put
      → IsAllTold by t ms
  all_told t v ms g f = record { put = g.answered.told; flushed_all = f }

  split_of : (t : Trace) (v : ServingState) (ms : List (List ℕ)) → Goes by (start by.first nodes t.got) v ms t.put → IsRest v.rest
      → IsSplit t.got ms v.rest
  split_of t v ms g r = record { whole = g.taken; each = g.each; tail = r }

  prompt_first : (p : Pulls) (q : Pushes) → IsPrompt by (untouched p q)
  prompt_first p q = record {
    messages = [];
    rest = [];
    split = record { whole = take_none _ [] refl; each = tt; tail = inl (inl refl) };
    good = inl refl;
    told = record { replies = []; are = refl; begin = record { more = all_but q.unflushed []; is = refl } };
  }

  -- before its first turn a run is under way with nothing done
  pub runs_first : (p : Pulls) (q : Pushes) (v : ServingState) → v ≡ start by.first nodes [] → IsRunning by nodes 0 (untouched p q) v []
  runs_first p q v e = record {
    goes = subst (λ (w : ServingState). Goes by (start by.first nodes []) w [] []) (sym e) (goes_nowhere by (start by.first nodes []));
    good = subst (λ (w : ServingState). IsOpen w.rest) (sym e) (inl refl);
    size = omega arith;
    flushed_all = take_none _ [] refl;
    prompt = prompt_first p q;
    pulls = zero_more _;
    ends = refl;
    read = refl;
    write = refl;
  }

  -- a run that stops before its first turn, for a reason that no device counts, keeps the promise
  pub stops_first : {A : Type 0} (turns : ℕ) (p : Pulls) (q : Pushes) (fault : StreamFault) → IsStopped by turns (untouched p q) [] [] fault
      → ends_met {A = A} (Err fault) ≡ 0 → read_failures {A = A} (Err fault) ≡ 0 → write_failures {A = A} (Err fault) ≡ 0
      → IsRun {A = A} by nodes turns (untouched p q) (Err fault)
  stops_first turns p q fault s e r w = record {
    messages = [];
    rest = [];
    split = record { whole = refl; each = tt; tail = inl (inl refl) };
    begun = all_put by [] [] refl;
    served = tt;
    stopped = s;
    prompt = prompt_first p q;
    counted = record {
      pulls = omega arith;
      size = omega arith;
      ends = zero_more _ ∙ ap (λ n. p.ends + n) (sym e);
      read = zero_more _ ∙ ap (λ n. p.failures + n) (sym r);
      write = zero_more _ ∙ ap (λ n. q.failures + n) (sym w);
    };
  }

  -- a run that has no turns ends with `Turns`
  pub no_turns : {A : Type 0} (turns : ℕ) (p : Pulls) (q : Pushes) → turns ≡ 0 → IsRun {A = A} by nodes turns (untouched p q) (Err Turns)
  no_turns turns p q z = stops_first turns p q Turns (omega arith, inl refl, record { put = refl; flushed_all = take_none _ [] refl }) refl
      refl refl

  -- a run that is refused memory before its first turn ends with `Memory`
  pub no_memory : {A : Type 0} (turns : ℕ) (p : Pulls) (q : Pushes) → IsRun {A = A} by nodes turns (untouched p q) (Err Memory)
  no_memory turns p q = stops_first turns p q Memory tt refl refl refl

  module _ (turn : ℕ) (t : Trace) (v : ServingState) (ms : List (List ℕ)) (r : IsRunning by nodes turn t v ms) where
    -- a run that stops between two turns, for a reason that no device counts, keeps the promise
    pub stops_between : {A : Type 0} (turns : ℕ) (fault : StreamFault) → turn ≤ turns → IsStopped by turns t ms v.rest fault
        → ends_met {A = A} (Err fault) ≡ 0 → read_failures {A = A} (Err fault) ≡ 0 → write_failures {A = A} (Err fault) ≡ 0
        → IsRun {A = A} by nodes turns t (Err fault)
    stops_between turns fault h s e f w = record {
      messages = ms;
      rest = v.rest;
      split = split_of t v ms r.goes (inl r.good);
      begun = all_put by ms t.put r.goes.answered.told;
      served = tt;
      stopped = s;
      prompt = r.prompt;
      counted = record {
        pulls = (let k = r.pulls in omega arith);
        size = (let k = r.pulls in let z = r.size in omega arith);
        ends = r.ends ∙ zero_more _ ∙ ap (λ n. t.source_before.ends + n) (sym e);
        read = r.read ∙ zero_more _ ∙ ap (λ n. t.source_before.failures + n) (sym f);
        write = r.write ∙ zero_more _ ∙ ap (λ n. t.sink_before.failures + n) (sym w);
      };
    }

    -- a run that used all its turns ends with `Turns`
    pub ends_turns : {A : Type 0} → IsRun {A = A} by nodes turn t (Err Turns)
    ends_turns = stops_between turn Turns (omega arith) (r.pulls, r.good, all_told t v ms r.goes r.flushed_all) refl refl refl

    -- a run that is refused memory between two turns ends with `Memory`
    pub ends_memory : {A : Type 0} (turns : ℕ) → turn ≤ turns → IsRun {A = A} by nodes turns t (Err Memory)
    ends_memory turns h = stops_between turns Memory h tt refl refl refl

    -- a pull that gave nothing
    module _ (new : Pulls) (x : List ℕ) (e : x ≡ []) (z : last_size new.last ≡ 0) where
      got_same : t.got ++ x ≡ t.got
      got_same = ap (λ l. t.got ++ l) e ∙ append-nil t.got

      -- a pull that gave nothing leaves the split of what was got
      pub split_quiet : IsSplit (t.got ++ x) ms v.rest
      split_quiet = record { whole = got_same ∙ r.goes.taken; each = r.goes.each; tail = inl r.good }

      -- a pull that gave nothing finds all replies to what was got before it flushed
      pub prompt_quiet : IsPrompt by (pulled_on t new x)
      prompt_quiet = record {
        messages = ms;
        rest = v.rest;
        split = record {
          whole = ap (λ n. all_but n (t.got ++ x)) z ∙ take_whole (t.got ++ x) ∙ got_same ∙ r.goes.taken;
          each = r.goes.each;
          tail = inl r.good;
        };
        good = r.good;
        told = record { replies = t.put; are = r.goes.answered.told; begin = all_begun _ _ (sym r.flushed_all) };
      }

    -- a pull that met the end
    module _ (new : Pulls) (x : List ℕ) (n turns : ℕ) (c : new ≡ pulled t.source (Ok n)) (l : length x ≡ n) (z : n ≡ 0) (low : IsLow t)
        (h : turn < turns) (few : turns ≤ 2 ^ 40) where
      counts : (new.pulls ≡ t.source.pulls + 1) × (new.ends ≡ t.source.ends + 1) × (new.failures ≡ t.source.failures)
          × (new.last ≡ Some End)
      counts = (
          let p = low.pulls in let e = low.ends in let f = low.failures in let a = r.pulls in let b = r.ends in let d = r.read in
          end_counted t.source new (omega arith) (omega arith) (omega arith) n c z)

      none : x ≡ []
      none = no_bytes x (l ∙ z)

      quiet : last_size new.last ≡ 0
      quiet = ap last_size counts.3

      counted : {A : Type 0} (result : Result (Done A) StreamFault) → ends_met result ≡ 1 → read_failures result ≡ 0
          → write_failures result ≡ 0
          → IsCounted turns (pulled_on t new x) result
      counted result e f w = record {
        pulls = (let a = counts.0 in let b = r.pulls in omega arith);
        size = (let a = counts.0 in let b = r.pulls in let s = r.size in let k = length-append t.got x in omega arith);
        ends = (let a = counts.1 in let b = r.ends in omega arith);
        read = (let a = counts.2 in let b = r.read in omega arith);
        write = r.write ∙ zero_more _ ∙ ap (λ k. t.sink_before.failures + k) (sym w);
      }

      -- if nothing is left the run ends with `Ok`, and its counts and balances are those of the
      -- messages
      pub ends_clean : {A : Type 0} (done : Done A) → v.rest ≡ [] → done.messages ≡ v.messages → done.written ≡ v.written
          → done.balances.items ≡ v.balances → IsRun by nodes turns (pulled_on t new x) (Ok done)
      ends_clean done e m w b = record {
        messages = ms;
        rest = v.rest;
        split = split_quiet new x none quiet;
        begun = all_put by ms t.put r.goes.answered.told;
        served = record {
          ended = counts.3;
          all_read = e;
          told = record { put = r.goes.answered.told; flushed_all = r.flushed_all };
          counted = (let k = r.goes.count in omega arith);
          written = (let k = r.goes.written in omega arith);
          balanced = subst (λ (bs : List ℤ). AreBalances (moves_of by ms) nodes bs) (sym b)
              (from_nothing nodes (moves_of by ms) v.balances r.goes.answered.moves);
        };
        stopped = tt;
        prompt = prompt_quiet new x none quiet;
        counted = counted (Ok done) refl refl refl;
      }

      -- if bytes are left the run ends with `CutOff` at the place where they begin
      pub ends_cut : {A : Type 0} → (v.rest ≡ [] → ⊥) → IsRun {A = A} by nodes turns (pulled_on t new x) (Err (CutOff v.at))
      ends_cut {A} e = record {
        messages = ms;
        rest = v.rest;
        split = split_quiet new x none quiet;
        begun = all_put by ms t.put r.goes.answered.told;
        served = tt;
        stopped = (
          counts.3,
          unfinished v.rest r.good e,
          (let k = r.goes.place in omega arith),
          record { put = r.goes.answered.told; flushed_all = r.flushed_all },
        );
        prompt = prompt_quiet new x none quiet;
        counted = counted {A = A} (Err (CutOff v.at)) refl refl refl;
      }

    -- a run whose pull fails ends with `Read`
    pub ends_read : {A : Type 0} (new : Pulls) (x : List ℕ) (failed : Failed) (turns : ℕ) → new ≡ pulled t.source (Err failed) → x ≡ []
        → IsLow t → turn < turns → turns ≤ 2 ^ 40 → IsRun {A = A} by nodes turns (pulled_on t new x) (Err Read)
    ends_read new x failed turns c e low h few =
        let p = low.pulls in let y = low.ends in let f = low.failures in let a = r.pulls in let b = r.ends in let d = r.read in
        let k = failure_counted t.source new (omega arith) (omega arith) (omega arith) failed c in
        let u = k.0 in let o = k.1 in let i = k.2 in
        let q : last_size new.last ≡ 0 = ap last_size k.3 in
        record {
          messages = ms;
          rest = v.rest;
          split = split_quiet new x e q;
          begun = all_put by ms t.put r.goes.answered.told;
          served = tt;
          stopped = (k.3, record { put = r.goes.answered.told; flushed_all = r.flushed_all });
          prompt = prompt_quiet new x e q;
          counted = record {
            pulls = omega arith;
            size = (let z = r.size in let j = length-append t.got x in let y = ap length e in omega arith);
            ends = omega arith;
            read = omega arith;
            write = r.write ∙ zero_more _;
          };
        }

    -- a pull that gave bytes
    module _ (new : Pulls) (x : List ℕ) (n : ℕ) (c : new ≡ pulled t.source (Ok n)) (l : length x ≡ n) (e : n ≡ 0 → ⊥) (low : IsLow t)
        (h : turn < 2 ^ 40) where
      bytes_counted : (new.pulls ≡ t.source.pulls + 1) × (new.ends ≡ t.source.ends) × (new.failures ≡ t.source.failures)
          × (new.last ≡ Some (Bytes n))
      bytes_counted = (
          let p = low.pulls in let y = low.ends in let f = low.failures in let a = r.pulls in let b = r.ends in let d = r.read in
          some_counted t.source new (omega arith) (omega arith) (omega arith) n c e)

      -- what was got before it is all that was got before
      pub got_before : before (pulled_on t new x) ≡ t.got
      got_before = ap (λ s. all_but (last_size s) (t.got ++ x)) bytes_counted.3
          ∙ ap (λ j. all_but j (t.got ++ x)) (sym l) ∙ all_but_last t.got x

      -- its bytes follow what was left, and earlier replies are flushed
      pub fed : (rest : List ℕ) → n ≤ PULL_SIZE → rest ≡ v.rest ++ x → IsFed by nodes turn (pulled_on t new x) (record v { rest = rest }) ms
      fed rest m z =
          let a = r.pulls in let b = r.ends in let d = r.read in let k = bytes_counted in let u = k.0 in let o = k.1 in let i = k.2 in
          record {
            goes = record {
              taken = ap (λ g. g ++ x) r.goes.taken ∙ append_assoc (joined ms) v.rest x ∙ ap (λ g. joined ms ++ g) (sym z);
              each = r.goes.each;
              answered = r.goes.answered;
              place = r.goes.place;
              count = r.goes.count;
              written = r.goes.written;
            };
            size = (let s = r.size in let j = length-append t.got x in omega arith);
            flushed_all = r.flushed_all;
            earlier = v.rest;
            split = record { whole = got_before ∙ r.goes.taken; each = r.goes.each; tail = inl r.good };
            good = r.good;
            pulls = omega arith;
            ends = o ∙ b;
            read = i ∙ d;
            write = r.write;
          }

  module _ (turn : ℕ) (t : Trace) (v : ServingState) (ms : List (List ℕ)) (f : IsFed by nodes turn t v ms) where
    prompt_late : (new : Pushes) (more : List ℕ) → new.unflushed ≤ t.sink.unflushed + length more → IsPrompt by (pushed_on t new more)
    prompt_late new more l =
        let b = flushed_late t.put more t.sink.unflushed new.unflushed f.flushed_all l in
        record {
          messages = ms;
          rest = f.earlier;
          split = f.split;
          good = f.good;
          told = record { replies = t.put; are = f.goes.answered.told; begin = b };
        }

    -- everything complete is answered
    module _ (w : ServingState) (ns : List (List ℕ)) (new : Pushes) (more : List ℕ) (g : Goes by v w ns more)
        (p : HasFlushed more t.sink new) where
      on : Goes by (start by.first nodes t.got) w (ms ++ ns) (t.put ++ more)
      on = goes_further by (start by.first nodes t.got) v w ms ns t.put more f.goes g

      all_flushed : flushed_bytes (pushed_on t new more) ≡ t.put ++ more
      all_flushed = flushed_more t.sink new t.put more f.flushed_all p

      -- if what is left is not a bad length, the next turn may begin
      pub went_round : IsOpen w.rest → IsRunning by nodes (turn + 1) (pushed_on t new more) w (ms ++ ns)
      went_round o = record {
        goes = on;
        good = o;
        size = f.size;
        flushed_all = all_flushed;
        prompt = prompt_late new more (not_late t.sink new more p);
        pulls = f.pulls;
        ends = f.ends;
        read = f.read;
        write = p.failures ∙ f.write;
      }

      -- if what is left states a bad length, the run ends with `BadLength` at the place where it begins
      pub ends_bad : {A : Type 0} (turns len : ℕ) → IsBad w.rest len → turn < turns → IsRun {A = A} by nodes turns (pushed_on t new more)
          (Err (BadLength w.at len))
      ends_bad turns len b h = record {
        messages = ms ++ ns;
        rest = w.rest;
        split = record { whole = on.taken; each = on.each; tail = inr (len, b) };
        begun = all_put by (ms ++ ns) (t.put ++ more) on.answered.told;
        served = tt;
        stopped = (b, (let q = on.place in omega arith), record { put = on.answered.told; flushed_all = all_flushed });
        prompt = prompt_late new more (not_late t.sink new more p);
        counted = record {
          pulls = (let k = f.pulls in omega arith);
          size = (let k = f.pulls in let z = f.size in omega arith);
          ends = f.ends ∙ zero_more _;
          read = f.read ∙ zero_more _;
          write = p.failures ∙ f.write ∙ zero_more _;
        };
      }

    -- the sink failed, or memory was refused
    module _ (new : Pushes) (more : List ℕ) where
      halts : {A : Type 0} (turns : ℕ) (fault : StreamFault) → Halts by v t.sink new fault more → turn < turns
          → ((a : List (List ℕ)) (b : List ℕ) → IsStopped by turns (pushed_on t new more) a b fault) → ends_met {A = A} (Err fault) ≡ 0
          → read_failures {A = A} (Err fault) ≡ 0 → write_failures {A = A} (Err fault) ≡ sink_failures fault →
          IsRun {A = A} by nodes turns (pushed_on t new more) (Err fault)
      halts turns fault h lt s em rm wm =
          let ns = h.messages in
          let rest = h.rest in
          let (ks, end, q) = some_split rest in
          let all : List (List ℕ) = ns ++ ks in
          let later : v.rest ≡ joined all ++ end = h.taken ∙ ap (λ l. joined ns ++ l) q.whole
          ∙ sym (append_assoc (joined ns) (joined ks) end) ∙ ap (λ l. l ++ end) (sym (joined_append ns ks)) in
          record {
            messages = ms ++ all;
            rest = end;
            split = record {
              whole = f.goes.taken ∙ ap (λ l. joined ms ++ l) later ∙ sym (append_assoc (joined ms) (joined all) end)
                  ∙ ap (λ l. l ++ end) (sym (joined_append ms all));
              each = both ms all f.goes.each (both ns ks h.each q.each);
              tail = q.tail;
            };
            begun = record {
              answered = ms ++ ns;
              later = ks;
              messages_are = sym (append_assoc ms ns ks);
              replies = t.put ++ h.replies;
              are = messages_on by by.first v.session ms ns t.put h.replies f.goes.answered.session f.goes.answered.told h.are;
              begun = record {
                more = h.told.more;
                is = ap (λ l. t.put ++ l) h.told.is ∙ sym (append_assoc t.put more h.told.more);
              };
            };
            served = tt;
            stopped = s (ms ++ all) end;
            prompt = prompt_late new more h.late;
            counted = record {
              pulls = (let k = f.pulls in omega arith);
              size = (let k = f.pulls in let z = f.size in omega arith);
              ends = f.ends ∙ zero_more _ ∙ ap (λ n. t.source_before.ends + n) (sym em);
              read = f.read ∙ zero_more _ ∙ ap (λ n. t.source_before.failures + n) (sym rm);
              write = h.failures ∙ ap (λ n. n + sink_failures fault) f.write ∙ ap (λ n. t.sink_before.failures + n) (sym wm);
            };
          }

      -- the run ends with `Write` or `Memory`, and what was put is a prefix of the replies
      pub ends_halt : {A : Type 0} (turns : ℕ) (fault : StreamFault) → Halts by v t.sink new fault more → turn < turns
          → IsRun {A = A} by nodes turns (pushed_on t new more) (Err fault)
      ends_halt turns Write h lt = halts turns Write h lt (λ a b. tt) refl refl refl
      ends_halt turns Memory h lt = halts turns Memory h lt (λ a b. tt) refl refl refl
      ends_halt turns Read h lt = absurd h.halt
      ends_halt turns Turns h lt = absurd h.halt
      ends_halt turns (BadLength at len) h lt = absurd h.halt
      ends_halt turns (CutOff at) h lt = absurd h.halt

-- counts that are small stay so as bytes arrive
pub small_fed : (by : Answering) (nodes turn : ℕ) (t : Trace) (v : ServingState) (rest : List ℕ) (ms : List (List ℕ))
    → IsFed by nodes turn t (record v { rest = rest }) ms → IsSmall nodes v → turn < 2 ^ 40 → IsSmall nodes (record v { rest = rest })
small_fed by nodes turn t v rest ms f s h = record {
  place = (let l = ap length f.goes.taken ∙ length-append (joined ms) rest in let p = f.goes.place in let z = f.size in omega arith);
  count = s.count;
  bytes = s.bytes;
  nodes_are = s.nodes_are;
  balanced = s.balanced;
}
