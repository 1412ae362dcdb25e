-- A stream, round by round. `goes_further` is the main lemma: states that lead to one another by rounds (`goes_round`), their replies
-- flushed, lead to one another as by one; counts stay small meanwhile (`small_on`). `halts_further` is the same if answering stops in the
-- last round.
use Rattle.std.proofs.Common.{◌≡◌, ◌∙◌, sym, ap, subst, ℕ, ◌+◌, ◌*◌, ◌<◌, ◌≤◌, ◌^◌, inl, inr, ℤ, List, [], ◌∷◌, ◌++◌, length, drop, map, refl, arith, append_assoc, length-append, Result, Ok, Err, IsErrAnd, IfErr}
use Rattle.std.specs.List.{AllByRecursion}
use Rattle.std.proofs.KnownBytes.{Appends-nil, Appends-trans}
use Rattle.fuse_wire.specs.Stream.{IsMessage, IsRest}
use Rattle.fuse_wire.specs.Requests.{asked}
use Rattle.reply_model.specs.declared.session.Session.{Session}
use Rattle.devices.specs.declared.counts.Pushes.{Pushes}
use Rattle.devices.specs.Pushing.{HasFlushed}
use Rattle.devices.specs.States.{SinkState}
use Rattle.serve_loop.specs.declared.one_round.RoundEnd.{RoundEnd}
use Rattle.reply_model.specs.Streams.{moves_by}
use Rattle.serve_loop.specs.Rounds.{Answering, joined, AreAnswered, IsRound}
use Rattle.reply_model.proofs.Sums.{within_moved, within_less}
use Rattle.serve_loop.proofs.Walking.{messages_on, joined_append, both, none_answered, answered_on, first_within}
use Rattle.serve_loop.specs.declared.stream_fault.StreamFault.{StreamFault}
use Rattle.serve_loop.specs.declared.stream_fault.StreamFault.TheVariants.{Write, Memory}
use Rattle.serve_loop.specs.Steps.{ServingState, IsSmall, Goes, Proceeds, sink_failures, Halts}

no_messages : (ms : List (List ℕ)) → length ms ≡ 0 → ms ≡ []
no_messages [] e = refl
no_messages (m ∷ ms) e = absurd (omega arith)

-- messages are no more than their bytes
pub joined_long : (ms : List (List ℕ)) → AllByRecursion IsMessage ms → length ms ≤ length (joined ms)
joined_long [] e = omega arith
joined_long (m ∷ ms) e = let k = joined_long ms e.1 in let g = e.0.good.0 in let l = length-append m (joined ms) in omega arith

-- if nothing is put, nothing waits to be flushed that did not wait before
pub flushed_none : (p : Pushes) → HasFlushed [] p p
flushed_none p = record { failures = refl; flushed = inl (refl, refl) }

-- bytes that are put and flushed, and then others, are all put and flushed
pub flushed_on : (p q r : Pushes) (put more : List ℕ) → HasFlushed put p q → HasFlushed more q r → HasFlushed (put ++ more) p r
flushed_on p q r put more h k = record {
  failures = k.failures ∙ h.failures;
  flushed = elim k.flushed [
    | inl x ↦ elim h.flushed [ inl y ↦ inl (ap (λ v. v ++ more) y.0 ∙ x.0, x.1 ∙ y.1) | inr y ↦ inr (x.1 ∙ y) ]
    | inr x ↦ inr x
  ];
}

-- no more bytes wait for a flush than waited before and were put
pub not_late : (p q : Pushes) (put : List ℕ) → HasFlushed put p q → q.unflushed ≤ p.unflushed + length put
not_late p q put h = elim h.flushed [ inl x ↦ (let y = x.1 in omega arith) | inr x ↦ omega arith ]

-- a round of a stream and balances is one of those that are equal to them
pub round_of : (by : Answering) (s : Session) (round : RoundEnd) (put rest seen : List ℕ) (old held new kept : List ℤ) → seen ≡ rest
    → held ≡ old → new ≡ kept →
    IsRound by s seen round put (record { old = held; new = new }) → IsRound by s rest round put (record { old = old; new = kept })
round_of by s round put rest seen old held new kept e f g r =
    let x = subst (λ (b : List ℕ). IsRound by s b round put (record { old = held; new = new })) e r in
    let y = subst (λ (b : List ℤ). IsRound by s rest round put (record { old = b; new = new })) f x in
    subst (λ (b : List ℤ). IsRound by s rest round put (record { old = old; new = b })) g y

-- what is appended to an empty list is all of it
pub all_of : (before after put : List ℕ) → before ≡ [] → after ≡ before ++ put → after ≡ put
all_of before after put e f = f ∙ ap (λ v. v ++ put) e

-- a round has no more messages than there are bytes
pub round_few : (by : Answering) (s : Session) (round : RoundEnd) (put rest : List ℕ) (old new : List ℤ)
    → IsRound by s rest round put (record { old = old; new = new }) → round.messages ≤ length rest
round_few by s round put rest old new r =
    let j = joined_long r.messages r.first.each in let w = first_within rest r.messages round.used r.first in let k = r.first.size in
    let c = r.count in omega arith

-- a round whose count is not 0 has messages
pub some_messages : (by : Answering) (s : Session) (round : RoundEnd) (put rest : List ℕ) (old new : List ℤ)
    (r : IsRound by s rest round put (record { old = old; new = new })) → (round.messages ≡ 0 → ⊥) → 0 < length r.messages
some_messages by s round put rest old new r n = let c = r.count in omega (arith, n)

-- what holds of the error `Memory` holds of a failure that has no other reason
pub from_memory : {X : Type 0} (r : Result X StreamFault) (Q : StreamFault → Type 0) → IsErrAnd r (λ fault. fault ≡ Memory) → Q Memory
    → IfErr r Q
from_memory (Ok x) Q i q = absurd i
from_memory (Err fault) Q i q = subst Q (sym i) q

module _ (by : Answering) where
  -- a state leads to itself by no messages
  pub goes_nowhere : (v : ServingState) → Goes by v v [] []
  goes_nowhere v = record {
    taken = refl;
    each = tt;
    answered = none_answered by v.session v.balances;
    place = omega arith;
    count = omega arith;
    written = omega arith;
  }

  -- a state that leads to another, and that to a third, leads to the third by the messages and replies of both
  pub goes_further : (a b c : ServingState) (ms ns : List (List ℕ)) (put more : List ℕ) → Goes by a b ms put → Goes by b c ns more
      → Goes by a c (ms ++ ns) (put ++ more)
  goes_further a b c ms ns put more g h =
      let j = ap length (joined_append ms ns) ∙ length-append (joined ms) (joined ns) in
      record {
        taken =
            g.taken
            ∙ ap (λ v. joined ms ++ v) h.taken
            ∙ sym (append_assoc (joined ms) (joined ns) c.rest)
            ∙ ap (λ v. v ++ c.rest) (sym (joined_append ms ns));
        each = both ms ns g.each h.each;
        answered = answered_on by a.session ms ns b.session c.session put more a.balances b.balances c.balances g.answered h.answered;
        place = (let x = g.place in let y = h.place in omega arith);
        count = (let x = g.count in let y = h.count in let l = length-append ms ns in omega arith);
        written = (let x = g.written in let y = h.written in let l = length-append put more in omega arith);
      }

  -- if nothing is answered nothing is handed on
  pub proceeds_nowhere : (v : ServingState) (k : SinkState) → Proceeds by v v k k
  proceeds_nowhere v k = record {
    messages = [];
    put = [];
    goes = goes_nowhere v;
    held = Appends-nil _;
    flushed = flushed_none _;
  }

  -- messages that are answered and then others, with the replies of both put, are all answered
  pub proceeds_further : (a b c : ServingState) (k l m : SinkState) → Proceeds by a b k l → Proceeds by b c l m → Proceeds by a c k m
  proceeds_further a b c k l m p q = record {
    messages = p.messages ++ q.messages;
    put = p.put ++ q.put;
    goes = goes_further a b c p.messages q.messages p.put q.put p.goes q.goes;
    held = Appends-trans _ _ _ _ _ p.held q.held;
    flushed = flushed_on _ _ _ p.put q.put p.flushed q.flushed;
  }

  -- a state advances by the messages of a round and the bytes that it answers
  pub goes_round : (from : ServingState) (round : RoundEnd) (put rest : List ℕ) (new : List ℤ) (at messages written : ℕ) →
      (r : IsRound by from.session from.rest round put (record { old = from.balances; new = new })) →
      rest ≡ drop round.used from.rest → at ≡ from.at + round.used → messages ≡ from.messages + round.messages → written ≡ from.written
      + length put →
      Goes by from (record { rest = rest; session = round.session; at = at; messages = messages; written = written; balances = new })
      r.messages put
  goes_round from round put rest new at messages written r e a m w = record {
    taken = r.first.whole ∙ ap (λ v. joined r.messages ++ v) (sym e);
    each = r.first.each;
    answered = r.answered;
    place = a ∙ ap (λ n. from.at + n) r.first.size;
    count = m ∙ ap (λ n. from.messages + n) r.count;
    written = w;
  }

  -- a round in which no message was complete
  module _ (from : ServingState) (round : RoundEnd) (put : List ℕ) (new : List ℤ) (r : IsRound by from.session from.rest round put
      (record { old = from.balances; new = new })) (z : round.messages ≡ 0) where
    none : r.messages ≡ []
    none = no_messages r.messages (sym r.count ∙ z)

    -- the state advances by no messages, to the balances that the round left
    pub goes_idle : Goes by from (record from { balances = new }) [] []
    goes_idle =
        let a = subst (λ (ms : List (List ℕ)). AreAnswered by from.session ms round.session put (record { old = from.balances; new = new }))
        none r.answered in
        record {
          taken = refl;
          each = tt;
          answered = record { session = refl; told = refl; moves = a.moves; light = omega arith };
          place = omega arith;
          count = omega arith;
          written = omega arith;
        }

    -- no message is at the front of the bytes that the round was given
    pub at_rest : IsRest from.rest
    at_rest = elim r.some [
      | inl h ↦ (let l = ap length none in absurd (omega arith))
      | inr t ↦ (let u : round.used ≡ 0 = r.first.size ∙ ap (λ ms. length (joined ms)) none in subst (λ n. IsRest (drop n from.rest)) u t)
    ]

  few : (from to : ServingState) (ms : List (List ℕ)) (put : List ℕ) → Goes by from to ms put → length put < 2 ^ 64
      → length put ≤ 2 ^ 64 * length (joined ms)
  few from to [] put g l = let e = ap length g.answered.told in omega arith
  few from to (m ∷ ms) put g l = let k = g.each.0.good.0 in let j = length-append m (joined ms) in omega arith

  -- counts that are small stay so as messages are answered with less than 2^64 bytes
  pub small_on : (nodes : ℕ) (from to : ServingState) (ms : List (List ℕ)) (put : List ℕ) → IsSmall nodes from → Goes by from to ms put
      → length put < 2 ^ 64 → IsSmall nodes to
  small_on nodes from to ms put s g l =
      let p = g.place in let c = g.count in let b = g.written in
      record {
        place = (let x = s.place in let t = ap length g.taken ∙ length-append (joined ms) to.rest in omega arith);
        count = (let x = s.count in let j = joined_long ms g.each in omega arith);
        bytes = (let x = s.bytes in let f = few from to ms put g l in omega arith);
        nodes_are = g.answered.moves.same ∙ s.nodes_are;
        balanced = (
            let k = g.answered.light in
            within_less _ _ to.balances (omega arith) (within_moved (2 ^ 64 * from.at) (moves_by by.moved from.session (map asked ms))
            from.balances to.balances s.balanced g.answered.moves));
      }

  -- if a message is answered, fewer bytes are left
  pub shorter : (from to : ServingState) (ms : List (List ℕ)) (put : List ℕ) → Goes by from to ms put → 0 < length ms
      → length to.rest < length from.rest
  shorter from to ms put g h = let j = joined_long ms g.each in let t = ap length g.taken ∙ length-append (joined ms) to.rest in omega arith

  -- refused memory may fault answering before anything is put
  pub halts_now : (v : ServingState) (p : Pushes) → Halts by v p p Memory []
  halts_now v p = record {
    messages = [];
    rest = v.rest;
    halt = tt;
    taken = refl;
    each = tt;
    replies = [];
    are = refl;
    told = record { more = []; is = refl };
    failures = omega arith;
    late = omega arith;
  }

  -- a sink that fails in a round has taken a prefix of its replies
  pub halts_late : (from : ServingState) (round : RoundEnd) (all put rest : List ℕ) (new : List ℤ) (p q : Pushes) →
      (r : IsRound by from.session from.rest round all (record { old = from.balances; new = new })) → all ≡ put ++ rest
      → q.failures ≡ p.failures + 1 → q.unflushed ≤ p.unflushed + length put →
      Halts by from p q Write put
  halts_late from round all put rest new p q r e f l = record {
    messages = r.messages;
    rest = drop round.used from.rest;
    halt = tt;
    taken = r.first.whole;
    each = r.first.each;
    replies = all;
    are = r.answered.told;
    told = record { more = rest; is = e };
    failures = f;
    late = l;
  }

  -- if a state leads to another and answering stops there, it stops for the first one
  pub halts_further : (a b : ServingState) (p q r : Pushes) (fault : StreamFault) (ms : List (List ℕ)) (put more : List ℕ)
      → Goes by a b ms put → HasFlushed put p q → Halts by b q r fault more → Halts by a p r fault (put ++ more)
  halts_further a b p q r fault ms put more g h k = record {
    messages = ms ++ k.messages;
    rest = k.rest;
    halt = k.halt;
    taken =
        g.taken
        ∙ ap (λ v. joined ms ++ v) k.taken
        ∙ sym (append_assoc (joined ms) (joined k.messages) k.rest)
        ∙ ap (λ v. v ++ k.rest) (sym (joined_append ms k.messages));
    each = both ms k.messages g.each k.each;
    replies = put ++ k.replies;
    are = messages_on by a.session b.session ms k.messages put k.replies g.answered.session g.answered.told k.are;
    told = record { more = k.told.more; is = ap (λ v. put ++ v) k.told.is ∙ sym (append_assoc put more k.told.more) };
    failures = k.failures ∙ ap (λ n. n + sink_failures fault) h.failures;
    late = (let l = not_late p q put h in let m = k.late in let w = length-append put more in omega arith);
  }
