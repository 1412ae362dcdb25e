-- A round, message by message. `one_more` is the main lemma: if the first messages of a stream are answered (`IsSoFar`), one more is.
-- Before it, messages that come after others: their bytes, replies, moves and sessions; after it, how far a round moves balances.
use Rattle.std.proofs.Common.{◌≡◌, ◌∙◌, sym, ap, subst, ℕ, ◌+◌, ◌*◌, ◌<◌, ◌≤◌, ◌^◌, ◌⊎◌, inl, inr, ℤ, List, [], ◌∷◌, ◌++◌, length, take, drop, map, refl, arith, append_assoc, append-nil, length-append}
use Rattle.std.specs.List.{AllByRecursion}
use Rattle.std.proofs.lemmas.Grind.{flat_map-append}
use Rattle.std.proofs.lemmas.List.{map-append, take-append-drop, take_at, drop-drop}
use Rattle.fuse_wire.specs.declared.framing.Framed.{Framed}
use Rattle.fuse_wire.specs.declared.framing.Framed.TheVariants.{Bad, More}
use Rattle.fuse_wire.specs.Frames.{Frames}
use Rattle.fuse_wire.specs.Stream.{IsMessage, IsRest, BeginsMessage}
use Rattle.fuse_wire.specs.Requests.{Asked, asked}
use Rattle.reply_model.specs.declared.session.Session.{Session}
use Rattle.reply_model.specs.Sessions.{session_after}
use Rattle.reply_model.specs.Streams.{AreReplies, session_at}
use Rattle.reply_model.proofs.Following.{one_reply, replies_on}
use Rattle.serve_loop.specs.declared.one_round.RoundEnd.{RoundEnd}
use Rattle.reply_model.specs.Balances.{IsLight, IsMoved, AreWithin}
use Rattle.reply_model.specs.declared.moves.Move.{Move}
use Rattle.reply_model.specs.Streams.{moves_by}
use Rattle.serve_loop.specs.Rounds.{Answering, IsReply, Balances, joined, IsAnswered, AreFirst, AreAnswered, IsRound}
use Rattle.reply_model.proofs.Sums.{none_moved, moved_on, within_moved, within_less, light_on}

-- the moves of two lists of requests are those of the first, and then those of the second in the
-- session that the first leaves
pub moves_append : (moved : Session → Asked → List Move) (s : Session) (xs ys : List Asked)
    → moves_by moved s (xs ++ ys) ≡ moves_by moved s xs ++ moves_by moved (session_at s xs) ys
moves_append moved s [] ys = refl
moves_append moved s (x ∷ xs) ys =
    ap (λ r. moved s x ++ r) (moves_append moved (session_after s x.op) xs ys)
    ∙ sym (append_assoc (moved s x) (moves_by moved (session_after s x.op) xs) (moves_by moved (session_at (session_after s x.op) xs) ys))

-- the session that two lists of requests leave is the one that the second leaves after the first
pub session_append : (s : Session) (xs ys : List Asked) → session_at s (xs ++ ys) ≡ session_at (session_at s xs) ys
session_append s [] ys = refl
session_append s (x ∷ xs) ys = session_append (session_after s x.op) xs ys

-- if each of some messages is complete and each of others is, all are
pub both : (ms ns : List (List ℕ)) → AllByRecursion IsMessage ms → AllByRecursion IsMessage ns → AllByRecursion IsMessage (ms ++ ns)
both [] ns e f = f
both (m ∷ ms) ns e f = (e.0, both ms ns e.1 f)

-- the bytes of messages and then others are those of the first and then those of the others
pub joined_append : (ms ns : List (List ℕ)) → joined (ms ++ ns) ≡ joined ms ++ joined ns
joined_append ms ns = flat_map-append (λ m. m) ms ns

-- the first messages of a stream, and then the first of what is left, are first messages of it
pub first_on : (stream : List ℕ) (ms ns : List (List ℕ)) (n k : ℕ) → AreFirst stream ms n → AreFirst (drop n stream) ns k
    → AreFirst stream (ms ++ ns) (n + k)
first_on stream ms ns n k f g = record {
  whole =
      f.whole
      ∙ ap (λ v. joined ms ++ v) (g.whole ∙ ap (λ v. joined ns ++ v) (drop-drop k n stream))
      ∙ sym (append_assoc (joined ms) (joined ns) (drop (n + k) stream))
      ∙ ap (λ v. v ++ drop (n + k) stream) (sym (joined_append ms ns));
  each = both ms ns f.each g.each;
  size = (let x = f.size in let y = g.size in let z = ap length (joined_append ms ns) ∙ length-append (joined ms) (joined ns) in
      omega arith);
}

-- no messages, with no bytes, are the first of any stream
pub none_first : (stream : List ℕ) → AreFirst stream [] 0
none_first stream = record { whole = refl; each = tt; size = refl }

-- the first messages of a stream have no more bytes than it
pub first_within : (stream : List ℕ) (ms : List (List ℕ)) (n : ℕ) → AreFirst stream ms n → n ≤ length stream
first_within stream ms n f =
    let e = ap length f.whole ∙ length-append (joined ms) (drop n stream) in
    let s = f.size in
    omega arith

-- a message at the front of a stream is its first
pub one_first : (stream : List ℕ) (n : ℕ) → BeginsMessage stream n → AreFirst stream (take n stream ∷ []) n
one_first stream n b =
    let t : take n stream ≡ b.message = ap (take n) b.is ∙ take_at b.message b.after n b.sized in
    record {
      whole = sym (take-append-drop n stream) ∙ ap (λ v. v ++ drop n stream) (sym (append-nil (take n stream)));
      each = (subst IsMessage (sym t) b.whole, tt);
      size = sym (ap length (append-nil (take n stream)) ∙ ap length t ∙ b.sized);
    }

-- and has the length that is said
pub as_long : (stream : List ℕ) (n : ℕ) → BeginsMessage stream n → n ≡ length (take n stream)
as_long stream n b = sym (ap length (ap (take n) b.is ∙ take_at b.message b.after n b.sized) ∙ b.sized)

-- replies to messages, and then to others in the session that they leave, are replies to all
pub messages_on : (by : Answering) (s t : Session) (ms ns : List (List ℕ)) (put more : List ℕ)
    → t ≡ session_at s (map asked ms) → AreReplies (IsReply by) s (map asked ms) put
    → AreReplies (IsReply by) t (map asked ns) more → AreReplies (IsReply by) s (map asked (ms ++ ns)) (put ++ more)
messages_on by s t ms ns put more e a b =
    subst (λ (qs : List Asked). AreReplies (IsReply by) s qs (put ++ more)) (sym (map-append asked ms ns))
    (replies_on (IsReply by) s (map asked ms) (map asked ns) put more a
    (subst (λ (v : Session). AreReplies (IsReply by) v (map asked ns) more) e b))

module _ (by : Answering) (s : Session) where
  -- no messages are answered with no bytes, and leave the session and the balances
  pub none_answered : (b : List ℤ) → AreAnswered by s [] s [] (record { old = b; new = b })
  none_answered b = record { session = refl; told = refl; moves = none_moved b; light = omega arith }

  -- messages that are answered, and then others in the session that they leave, are all answered
  pub answered_on : (ms ns : List (List ℕ)) (t u : Session) (put more : List ℕ) (a b c : List ℤ) →
      AreAnswered by s ms t put (record { old = a; new = b }) → AreAnswered by t ns u more (record { old = b; new = c }) →
      AreAnswered by s (ms ++ ns) u (put ++ more) (record { old = a; new = c })
  answered_on ms ns t u put more a b c x y = record {
    session = y.session ∙ ap (λ v. session_at v (map asked ns)) x.session
        ∙ sym (session_append s (map asked ms) (map asked ns))
        ∙ ap (session_at s) (sym (map-append asked ms ns));
    told = messages_on by s t ms ns put more x.session x.told y.told;
    moves = subst (λ v. IsMoved v a c) said (moved_on (moves_by by.moved s (map asked ms)) (moves_by by.moved t (map asked ns)) a b c
        x.moves y.moves);
    light =
        subst (λ n. IsLight (moves_by by.moved s (map asked (ms ++ ns))) n) (sym (ap length (joined_append ms ns)
        ∙ length-append (joined ms) (joined ns)))
        (subst (λ v. IsLight v (length (joined ms) + length (joined ns))) said (light_on _ _ _ _ x.light y.light));
  }
    where
      said : moves_by by.moved s (map asked ms) ++ moves_by by.moved t (map asked ns) ≡ moves_by by.moved s (map asked (ms ++ ns))
      said =
          ap (λ v. moves_by by.moved s (map asked ms) ++ moves_by by.moved v (map asked ns)) x.session
          ∙ sym (moves_append by.moved s (map asked ms) (map asked ns))
          ∙ ap (moves_by by.moved s) (sym (map-append asked ms ns))

  -- a message that is answered is a list of one message that is answered
  pub one_answered : (m : List ℕ) (t : Session) (put : List ℕ) (b : Balances) → IsAnswered by s m t put b
      → AreAnswered by s (m ∷ []) t put b
  one_answered m t put b a = record {
    session = a.session;
    told = one_reply (IsReply by) s (asked m) put a.told;
    moves = subst (λ v. IsMoved v b.old b.new) (sym (append-nil (by.moved s (asked m)))) a.moves;
    light =
        subst (λ v. IsLight v (length (joined (m ∷ [])))) (sym (append-nil (by.moved s (asked m))))
        (subst (λ v. IsLight (by.moved s (asked m)) (length v)) (sym (append-nil m)) a.light);
  }

  -- answered messages move balances by at most 2^64 for each of their bytes
  pub still_within : (limit used : ℕ) (ms : List (List ℕ)) (t : Session) (put : List ℕ) (a b : List ℤ)
      (stream : List ℕ) → AreWithin limit a → AreFirst stream ms used
      → AreAnswered by s ms t put (record { old = a; new = b }) → AreWithin (limit + 2 ^ 64 * used) b
  still_within limit used ms t put a b stream w f x =
      let k = x.light in
      let e = f.size in
      within_less _ _ b (omega arith) (within_moved limit (moves_by by.moved s (map asked ms)) a b w x.moves)

-- bytes that are appended, and then more bytes, are appended as one
pub appended : (all put more old new : List ℕ) → new ≡ old ++ more → old ≡ all ++ put → new ≡ all ++ (put ++ more)
appended all put more old new e f = e ∙ ap (λ v. v ++ more) f ∙ append_assoc all put more

-- some of the first messages of a stream are answered with these bytes
pub record IsSoFar (by : Answering) (s : Session) (stream : List ℕ) (round : RoundEnd) (put : List ℕ) (b : Balances) : Type 0 where
  pub messages : List (List ℕ)
  pub first : AreFirst stream messages round.used
  pub count : round.messages ≡ length messages
  pub answered : AreAnswered by s messages round.session put b

module _ (by : Answering) (s : Session) (stream : List ℕ) where
  -- before the first message nothing is answered, and nothing moved
  pub nothing_so_far : (b : List ℤ) → IsSoFar by s stream (record { used = 0; messages = 0; session = s }) [] (record { old = b; new = b })
  nothing_so_far b = record { messages = []; first = none_first stream; count = refl; answered = none_answered by s b }

  -- if the next message is answered, one more of the first messages is
  pub one_more : (round : RoundEnd) (put more : List ℕ) (a b c : List ℤ) (rest : List ℕ) (len : ℕ) (after : Session) →
      IsSoFar by s stream round put (record { old = a; new = b }) → rest ≡ drop round.used stream
      → BeginsMessage rest len → IsAnswered by round.session (take len rest) after more
      (record { old = b; new = c }) →
      IsSoFar by s stream (record { used = round.used + len; messages = round.messages + 1; session = after }) (put ++ more)
      (record { old = a; new = c })
  one_more round put more a b c rest len after f e m x =
      let there : AreFirst (drop round.used stream) (take len rest ∷ []) len = subst
      (λ (r : List ℕ). AreFirst r (take len rest ∷ []) len) e (one_first rest len m) in
      record {
        messages = f.messages ++ take len rest ∷ [];
        first = first_on stream f.messages (take len rest ∷ []) round.used len f.first there;
        count = (let k = f.count in let n = length-append f.messages (take len rest ∷ []) in omega arith);
        answered = answered_on by s f.messages (take len rest ∷ []) round.session after put more a b c
            f.answered (one_answered by round.session (take len rest) after more (record { old = b; new = c })
            x);
      }

  -- the messages answered so far are a round, if there is one or what is left begins with none
  pub is_round : (round : RoundEnd) (put : List ℕ) (b : Balances) → IsSoFar by s stream round put b
      → (0 < round.messages) ⊎ IsRest (drop round.used stream) → IsRound by s stream round put b
  is_round round put b f o = record {
    messages = f.messages;
    first = f.first;
    count = f.count;
    answered = f.answered;
    some = elim o [ inl h ↦ inl (let k = f.count in omega arith) | inr r ↦ inr r ];
  }

  -- if replies were put, a message is answered
  some_put : (messages : List (List ℕ)) (t : Session) (put : List ℕ) → AreReplies (IsReply by) t (map asked messages) put → 0 < length put
      → 0 < length messages
  some_put [] t put none some = absurd (let e = ap length none in omega arith)
  some_put (m ∷ ms) t put are some = omega arith

  -- so the messages answered so far are a round
  pub full_round : (round : RoundEnd) (put : List ℕ) (b : Balances) → IsSoFar by s stream round put b → 0 < length put
      → IsRound by s stream round put b
  full_round round put b f some =
      let n = some_put f.messages s put f.answered.told some in
      let k = f.count in
      is_round round put b f (inl (omega arith))

  -- and so are they if what is left begins with none
  pub last_round : (round : RoundEnd) (put : List ℕ) (b : Balances) (rest : List ℕ) (framed : Framed) → IsSoFar by s stream round put b
      → rest ≡ drop round.used stream → Frames rest framed → (framed ≡ More) ⊎ ((n : ℕ) × (framed ≡ Bad n))
      → IsRound by s stream round put b
  last_round round put b rest framed f e frames is =
      let left : IsRest rest = elim is [
        | inl more ↦ inl (subst (Frames rest) more frames)
        | inr bad ↦ inr (bad.0, subst (Frames rest) bad.1 frames)
      ] in
      is_round round put b f (inr (subst IsRest e left))

  -- a round takes balances within 2^122 no further than 2^123, if the stream has at most 2^57 bytes
  pub so_far_within : (round : RoundEnd) (put : List ℕ) (a b : List ℤ)
      → IsSoFar by s stream round put (record { old = a; new = b }) → AreWithin (2 ^ 122) a
      → length stream ≤ 2 ^ 57 → AreWithin (2 ^ 123) b
  so_far_within round put a b f w n =
      let u = first_within stream f.messages round.used f.first in
      within_less _ _ b (omega arith) (still_within by s (2 ^ 122) round.used f.messages round.session put a b stream w f.first f.answered)
