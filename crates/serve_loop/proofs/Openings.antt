-- A stream that is served to its end, or until its session has begun. If that was asked for, the session had not begun before the last
-- pull, nor has it now, if more is awaited (`IsAwaiting`); after a pull that gave bytes it had not begun before (`IsFollowed`). Each other
-- lemma is an end.
use Rattle.std.proofs.Common.{◌≡◌, ◌==◌, ◌∙◌, ap, sym, subst, refl, ℕ, ◌+◌, ◌^◌, ◌<◌, ◌≤◌, ◌⊎◌, inl, inr, ℤ, Bool, true, false, true≢false, List, [], ◌∷◌, ◌++◌, length, map, append-nil, Option, Result, Ok, Err, IsErrAnd, arith}
use Rattle.std.specs.Io.KnownBytes.{Appends, Consumes}
use Rattle.std.proofs.KnownBytes.{Appends-nil, Appends-trans, Consumes-nil, Consumes-trans}
use Rattle.devices.specs.declared.counts.LastPull.{LastPull}
use Rattle.devices.specs.declared.failed.Failed.{Failed}
use Rattle.devices.specs.States.{Devices, SinkState, SourceState, devices}
use Rattle.fuse_wire.specs.Requests.{asked}
use Rattle.fuse_wire.specs.Stream.{IsBad, IsOpen, IsSplit}
use Rattle.fuse_wire.proofs.Splits.{one_split}
use Rattle.reply_model.specs.Sessions.{is_fresh}
use Rattle.reply_model.specs.Streams.{session_at}
use Rattle.serve_loop.specs.Buffers.{Fills}
use Rattle.serve_loop.specs.Rounds.{Answering}
use Rattle.serve_loop.specs.Serving.{AreBalances, AreReady, Does, IsRun, Trace, all_but, before, last_size, moves_of}
use Rattle.serve_loop.specs.Steps.{IsHalt, IsSmall, Proceeds, ServingState, StopsShort}
use Rattle.serve_loop.specs.Opening.{HasBegun, HasNotBegun, IsServedUntil, WasNotBegun}
use Rattle.serve_loop.specs.declared.done.Done.{Done}
use Rattle.serve_loop.specs.declared.opening.Begun.{Begun}
use Rattle.serve_loop.specs.declared.opening.Opening.{Opening}
use Rattle.serve_loop.specs.declared.opening.Opening.TheVariants as openings
use Rattle.serve_loop.specs.declared.opening.Until.{Until}
use Rattle.serve_loop.specs.declared.opening.Until.TheVariants as wanted
use Rattle.serve_loop.specs.declared.stream_fault.StreamFault.{StreamFault}
use Rattle.serve_loop.specs.declared.stream_fault.StreamFault.TheVariants.{BadLength, CutOff, Memory, Read, Turns, Write}
use Rattle.serve_loop.proofs.Runs.{ends_bad, ends_clean, ends_cut, ends_halt, ends_memory, ends_read, ends_turns, got_before, no_memory, no_turns}
use Rattle.serve_loop.proofs.Traces.{IsLow, IsRunning, from_nothing, no_bytes, none_left, some_left, start, take_none, take_whole, zero_more}
use Rattle.serve_loop.proofs.Turns.{IsAfter, IsBefore, feeds, feeds_small, first_turn, goes_on, low, so_far}

-- the result of a stream that was served to its end, or stopped
abbrev pub as_opening : {A : Type 0} → Result (Done A) StreamFault → Result (Opening A) StreamFault
as_opening (Ok done) = Ok (openings.Ended done)
as_opening (Err fault) = Err fault

-- more is awaited: a part of a message is left, or the session has not begun, or nothing has arrived yet
abbrev pub IsWaiting : ServingState → Type 0
IsWaiting v = (0 < length v.rest) ⊎ ((is_fresh v.session ≡ true) ⊎ (v.messages ≡ 0))

module _ (by : Answering) where
  -- if nothing arrived, no session has begun
  pub nothing_begun : (bytes : List ℕ) → bytes ≡ [] → HasNotBegun by bytes
  nothing_begun bytes e = record {
    fresh = λ messages whole some. (
        let o = one_split bytes [] messages [] [] (record { whole = e; each = tt; tail = inl (inl refl) }) whole in
        let l : 0 ≡ length messages = ap length o.0 in
        absurd (omega arith));
  }

  -- if more is awaited, no session has begun
  pub waits_on : (nodes turn : ℕ) (t : Trace) (v : ServingState) (ms : List (List ℕ)) → IsRunning by nodes turn t v ms → IsWaiting v
      → HasNotBegun by t.got
  waits_on nodes turn t v ms r w = record {
    fresh = λ messages whole some. (
        let o = one_split t.got ms messages v.rest [] (record { whole = r.goes.taken; each = r.goes.each; tail = inl r.good }) whole in
        elim w [
          | inl left ↦ absurd (let l : length v.rest ≡ 0 = ap length o.1 in omega arith)
          | inr (inl fresh) ↦ ap (λ m. is_fresh (session_at by.first (map asked m))) (sym o.0)
              ∙ ap is_fresh (sym r.goes.answered.session) ∙ fresh
          | inr (inr none) ↦ absurd (let l = ap length o.0 in let k = r.goes.count in omega arith)
        ]);
  }

  -- if answering stopped, the session had not begun before the last pull
  pub not_at_halt : (A : Type 0) (t : Trace) (fault : StreamFault) → IsHalt fault → HasNotBegun by (before t)
      → WasNotBegun {A = A} by t (Err fault)
  not_at_halt A t Write h earlier = earlier
  not_at_halt A t Memory h earlier = earlier
  not_at_halt A t Read h earlier = absurd h
  not_at_halt A t Turns h earlier = absurd h
  not_at_halt A t (BadLength at len) h earlier = absurd h
  not_at_halt A t (CutOff at) h earlier = absurd h

  -- if the session of a stream that began in a fresh one has begun, what was got says so
  pub begun_or_not : {A : Type 0} (nodes turns : ℕ) (t : Trace) (begun : Begun A) → is_fresh by.first ≡ true
      → HasBegun by nodes turns t begun → ¬ HasNotBegun by t.got
  begun_or_not nodes turns t begun new b not = cases b.messages b.answered.split (ap is_fresh (sym b.session_is) ∙ b.ready)
    where
      cases : (messages : List (List ℕ)) → IsSplit t.got messages [] → is_fresh (session_at by.first (map asked messages)) ≡ false → ⊥
      cases [] whole old = true≢false (sym new ∙ old)
      cases (m ∷ ms) whole old = true≢false (sym (not.fresh (m ∷ ms) whole (omega arith)) ∙ old)

-- it was served as far as it should be: if the beginning of a session was to end it, no session had begun
served_until : {A : Type 0} (until : Until) (by : Answering) (nodes turns : ℕ) (t : Trace) (result : Result (Done A) StreamFault)
    → IsRun by nodes turns t result → (until ≡ wanted.Begun → WasNotBegun by t result)
    → IsServedUntil until by nodes turns t (as_opening result)
served_until wanted.End by nodes turns t (Ok done) run not = run
served_until wanted.End by nodes turns t (Err fault) run not = run
served_until wanted.Begun by nodes turns t (Ok done) run not = record { run = run; not_begun = not refl }
served_until wanted.Begun by nodes turns t (Err fault) run not = record { run = run; not_begun = not refl }

module _ (by : Answering) (nodes : ℕ) (until : Until) (old : Devices) where
  -- before a turn
  pub record IsAwaiting (turn : ℕ) (now : Devices) (v : ServingState) : Type 0 where
    pub served : IsBefore by nodes old turn now v
    pub earlier : until ≡ wanted.Begun → HasNotBegun by (before (so_far old now served.got served.put))
    pub waiting : until ≡ wanted.Begun → IsWaiting v

  -- after a pull that gave bytes
  pub record IsFollowed (turn : ℕ) (now : Devices) (v : ServingState) : Type 0 where
    pub served : IsAfter by nodes old turn now v
    pub earlier : until ≡ wanted.Begun → HasNotBegun by (before (so_far old now served.got served.put))

  -- a call ended so, having got and put these bytes
  over : {A : Type 0} (turns : ℕ) (now : Devices) (got put : List ℕ) → Consumes old.source.left now.source.left got
      → Appends old.sink.held now.sink.held put → (result : Result (Done A) StreamFault)
      → IsRun by nodes turns (so_far old now got put) result
      → (until ≡ wanted.Begun → WasNotBegun by (so_far old now got put) result)
      → Does (λ t. IsServedUntil until by nodes turns t (as_opening result)) old now
  over turns now got put took held result run not = (got, put, took, held, served_until until by nodes turns _ result run not)

  -- and its result is that memory was refused
  for_memory : {A : Type 0} (turns : ℕ) (now : Devices) (result : Result (Opening A) StreamFault)
      → IsErrAnd result (λ fault. fault ≡ Memory) → Does (λ t. IsServedUntil {A = A} until by nodes turns t (Err Memory)) old now
      → Does (λ t. IsServedUntil until by nodes turns t result) old now
  for_memory turns now (Ok opening) e did = absurd e
  for_memory {A} turns now (Err fault) e did =
      subst (λ f. Does (λ t. IsServedUntil {A = A} until by nodes turns t (Err f)) old now) (sym e) did

  -- before the first turn
  pub awaits_first : (v : ServingState) → v ≡ start by.first nodes [] → IsAwaiting 0 old v
  unfolding first_turn
  awaits_first v is = record {
    served = first_turn by nodes old v is;
    earlier = λ _. nothing_begun by _ (take_none _ [] refl);
    waiting = λ _. inr (inr (ap (λ (w : ServingState). w.messages) is));
  }

  -- there are no turns
  pub over_at_once : (A : Type 0) (turns : ℕ) → turns ≡ 0 → Does (λ t. IsServedUntil {A = A} until by nodes turns t (Err Turns)) old old
  over_at_once A turns none =
      over {A = A} turns old [] [] (Consumes-nil _) (Appends-nil _) (Err Turns) (no_turns by nodes turns _ _ none)
      (λ _. nothing_begun by [] refl)

  -- memory was refused before the first turn
  pub never_begun : {A : Type 0} (turns : ℕ) (result : Result (Opening A) StreamFault) → IsErrAnd result (λ fault. fault ≡ Memory)
      → Does (λ t. IsServedUntil until by nodes turns t result) old old
  never_begun {A} turns result e =
      for_memory turns old result e (over {A = A} turns old [] [] (Consumes-nil _) (Appends-nil _) (Err Memory)
      (no_memory by nodes turns _ _) (λ _. nothing_begun by _ (take_none _ [] refl)))

  module _ (turn turns : ℕ) (now : Devices) (v : ServingState) (a : IsAwaiting turn now v) where
    not_begun : until ≡ wanted.Begun → HasNotBegun by a.served.got
    not_begun asked = waits_on by nodes turn _ v a.served.messages a.served.runs (a.waiting asked)

    -- memory was refused between two turns
    pub over_for_memory : {A : Type 0} → turn ≤ turns → (result : Result (Opening A) StreamFault)
        → IsErrAnd result (λ fault. fault ≡ Memory) → Does (λ t. IsServedUntil until by nodes turns t result) old now
    over_for_memory {A} h result e =
        let b = a.served in
        for_memory turns now result e (over {A = A} turns now b.got b.put b.took b.held (Err Memory)
        (ends_memory by nodes turn _ v b.messages b.runs turns h) a.earlier)

    -- all turns were used
    pub over_for_turns : (A : Type 0) → turn ≡ turns → Does (λ t. IsServedUntil {A = A} until by nodes turns t (Err Turns)) old now
    over_for_turns A last =
        let b = a.served in
        let t = so_far old now b.got b.put in
        over {A = A} turns now b.got b.put b.took b.held (Err Turns)
        (ends_turns by nodes turns t v b.messages (subst (λ n. IsRunning by nodes n t v b.messages) last b.runs)) not_begun

    -- the pull of a turn
    module _ (source : SourceState) (kept rest : List ℕ) (ready : AreReady turns old) (h : turn < turns) (same : kept ≡ v.rest) where
      few_pulls : IsLow (so_far old now a.served.got a.served.put)
      few_pulls = low by nodes old turns now a.served.got a.served.put ready

      -- it gave nothing
      still : (x : List ℕ) → x ≡ [] → until ≡ wanted.Begun → HasNotBegun by (a.served.got ++ x)
      still x none asked = subst (HasNotBegun by) (sym (ap (λ l. a.served.got ++ l) none ∙ append-nil a.served.got)) (not_begun asked)

      -- it failed
      pub over_for_read : (A : Type 0) (failed : Failed) → Fills now.source source kept rest (Err failed)
          → Does (λ t. IsServedUntil {A = A} until by nodes turns t (Err Read)) old (devices source now.sink)
      over_for_read A failed (x, more, pull) =
          let b = a.served in
          over {A = A} turns (devices source now.sink) (b.got ++ x) b.put (Consumes-trans _ _ _ _ _ b.took more) b.held (Err Read)
          (ends_read by nodes turn _ v b.messages b.runs _ x failed turns pull.counts pull.is few_pulls h ready.few) (still x pull.is)

      -- it met the end
      module _ (n : ℕ) (fills : Fills now.source source kept rest (Ok n)) (none : n ≡ 0) (seen : List ℕ) (seen_is : seen ≡ rest)
          (empty : Bool) (empty_is : empty ≡ (length seen == 0)) where
        behind : rest ≡ v.rest ++ fills.0
        behind = fills.2.behind ∙ ap (λ r. r ++ fills.0) same

        -- and nothing was left
        pub over_at_end : {A : Type 0} (done : Done A) → empty ≡ true → done.messages ≡ v.messages → done.written ≡ v.written
            → done.balances.items ≡ v.balances
            → Does (λ t. IsServedUntil until by nodes turns t (Ok (openings.Ended done))) old (devices source now.sink)
        over_at_end done e m w bs =
            let b = a.served in
            let (x, more, pull) = fills in
            over turns (devices source now.sink) (b.got ++ x) b.put (Consumes-trans _ _ _ _ _ b.took more) b.held (Ok done)
            (ends_clean by nodes turn _ v b.messages b.runs _ x n turns pull.counts pull.is.0 none few_pulls h ready.few done
            (none_left seen rest v.rest x empty empty_is e seen_is behind) m w bs) (still x (no_bytes x (pull.is.0 ∙ none)))

        -- and a part of a message was left
        pub over_cut_off : (A : Type 0) → empty ≡ false
            → Does (λ t. IsServedUntil {A = A} until by nodes turns t (Err (CutOff v.at))) old (devices source now.sink)
        over_cut_off A e =
            let b = a.served in
            let (x, more, pull) = fills in
            let t = so_far old (devices source now.sink) (b.got ++ x) b.put in
            let run : IsRun {A = A} by nodes turns t (Err (CutOff v.at)) =
            ends_cut by nodes turn _ v b.messages b.runs _ x n turns pull.counts pull.is.0 none few_pulls h ready.few
            (some_left seen rest v.rest x empty empty_is e seen_is behind (pull.is.0 ∙ none)) in
            let all : before t ≡ b.got ++ x = ap (λ (l : Option LastPull). all_but (last_size l) (b.got ++ x)) run.stopped.0
            ∙ take_whole (b.got ++ x) in
            over {A = A} turns (devices source now.sink) (b.got ++ x) b.put (Consumes-trans _ _ _ _ _ b.took more) b.held
            (Err (CutOff v.at)) run
            (λ asked. subst (HasNotBegun by) (sym all) (still x (no_bytes x (pull.is.0 ∙ none)) asked))

      -- it gave bytes
      pub follows : (n : ℕ) → Fills now.source source kept rest (Ok n) → (n ≡ 0 → ⊥)
          → IsFollowed turn (devices source now.sink) (record v { rest = rest })
      unfolding feeds
      follows n fills some =
          let b = a.served in
          let (x, more, pull) = fills in
          let few : turn < 2 ^ 40 = (let f = ready.few in omega arith) in
          record {
            served = feeds by nodes old turn turns now v b source kept rest ready h same n fills some;
            earlier = λ asked. subst (HasNotBegun by)
                (sym (got_before by nodes turn _ v b.messages b.runs _ x n pull.counts pull.is.0 some few_pulls few)) (not_begun asked);
          }

      -- and the counts stay small
      pub follows_small : IsFollowed turn (devices source now.sink) (record v { rest = rest }) → IsSmall nodes v
          → IsSmall nodes (record v { rest = rest })
      follows_small f small = feeds_small by nodes old turn turns now v a.served source kept rest ready h same f.served small

  -- the complete messages in the bytes that arrived
  module _ (turn turns : ℕ) (now : Devices) (v : ServingState) (f : IsFollowed turn now v) where
    -- answering it stopped
    pub over_for_halt : (A : Type 0) (sink : SinkState) (fault : StreamFault) → turn < turns → StopsShort by v now.sink sink fault
        → Does (λ t. IsServedUntil {A = A} until by nodes turns t (Err fault)) old (devices now.source sink)
    over_for_halt A sink fault h (out, and, halted) =
        let b = f.served in
        over {A = A} turns (devices now.source sink) b.got (b.put ++ out) b.took (Appends-trans _ _ _ _ _ b.held and) (Err fault)
        (ends_halt by nodes turn _ v b.messages b.fed _ out turns fault halted h)
        (λ asked. not_at_halt by A (so_far old (devices now.source sink) b.got (b.put ++ out)) fault halted.halt (f.earlier asked))

    -- it was answered
    module _ (w : ServingState) (sink : SinkState) (p : Proceeds by v w now.sink sink) where
      -- and what is left says a bad length
      pub over_for_bad : (A : Type 0) (len : ℕ) → turn < turns → IsBad w.rest len
          → Does (λ t. IsServedUntil {A = A} until by nodes turns t (Err (BadLength w.at len))) old (devices now.source sink)
      over_for_bad A len h bad =
          let b = f.served in
          over {A = A} turns (devices now.source sink) b.got (b.put ++ p.put) b.took (Appends-trans _ _ _ _ _ b.held p.held)
          (Err (BadLength w.at len))
          (ends_bad by nodes turn _ v b.messages b.fed w p.messages _ p.put p.goes p.flushed turns len bad h) f.earlier

      -- and what is left is good
      module _ (good : IsOpen w.rest) where
        abbrev on : IsBefore by nodes old (turn + 1) (devices now.source sink) w
        on = goes_on by nodes old turn turns now v f.served w sink p good

        -- and more is awaited
        pub awaits_on : (until ≡ wanted.Begun → (0 < length w.rest) ⊎ (is_fresh w.session ≡ true))
            → IsAwaiting (turn + 1) (devices now.source sink) w
        unfolding goes_on
        awaits_on waits = record {
          served = on;
          earlier = f.earlier;
          waiting = λ asked. elim (waits asked) [ inl left ↦ inl left | inr fresh ↦ inr (inl fresh) ];
        }

        -- and the session has begun, and nothing is left
        pub over_begun : {A : Type 0} (begun : Begun A) → until ≡ wanted.Begun → turn < turns → w.rest ≡ []
            → begun.session ≡ w.session → is_fresh w.session ≡ false → begun.done.messages ≡ w.messages → begun.done.written ≡ w.written
            → begun.done.balances.items ≡ w.balances
            → Does (λ t. IsServedUntil until by nodes turns t (Ok (openings.Begun begun))) old (devices now.source sink)
        unfolding goes_on
        over_begun {A} begun wants h none s ready m o bs =
            let b = on in
            let r = b.runs in
            let ms = b.messages in
            let has : HasBegun by nodes turns (so_far old (devices now.source sink) b.got b.put) begun = record {
              messages = ms;
              answered = record {
                split = subst (λ l. IsSplit b.got ms l) none (record { whole = r.goes.taken; each = r.goes.each; tail = inl r.good });
                put = r.goes.answered.told;
                flushed_all = r.flushed_all;
              };
              session_is = s ∙ r.goes.answered.session;
              ready = ap is_fresh s ∙ ready;
              earlier = f.earlier wants;
              done = record {
                counted = (let k = r.goes.count in omega arith);
                written = (let k = r.goes.written in omega arith);
                balanced = subst (λ (xs : List ℤ). AreBalances (moves_of by ms) nodes xs) (sym bs)
                    (from_nothing nodes (moves_of by ms) w.balances r.goes.answered.moves);
              };
              counted = record {
                pulls = (let k = r.pulls in omega arith);
                size = (let k = r.pulls in let z = r.size in omega arith);
                ends = r.ends ∙ zero_more _;
                read = r.read ∙ zero_more _;
                write = r.write ∙ zero_more _;
              };
            } in
            let as_asked = subst (λ u. IsServedUntil {A = A} u by nodes turns (so_far old (devices now.source sink) b.got b.put)
            (Ok (openings.Begun begun))) (sym wants) has in
            (b.got, b.put, b.took, b.held, as_asked)
