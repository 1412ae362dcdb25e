-- A round of a stream by workers: `by_jobs`. Messages mean what their jobs mean (`jobs_told`, `jobs_moved`), pieces of all batches what the
-- jobs mean (Hands), and what was appended is what the pieces contain; so it is a round of the messages.
use Rattle.std.proofs.Common.{◌≡◌, ◌∙◌, sym, ap, subst, ℕ, zero, suc, ◌+◌, ◌<◌, ◌≤◌, ◌⊎◌, inl, inr, ℤ, ◌+ℤ◌, List, [], ◌∷◌, ◌++◌, length, map, take, drop, refl, arith, length-append}
use Rattle.std.specs.Prelude.{slice_index}
use Rattle.std.proofs.lemmas.List.{map-append}
use Rattle.std.specs.List.{AllByRecursion, flat_map}
use Rattle.fuse_wire.specs.Reads.{asked_of}
use Rattle.fuse_wire.specs.Requests.{Asked, asked}
use Rattle.fuse_wire.specs.Stream.{BeginsMessage, IsMessage, IsRest}
use Rattle.stack_model.specs.Listing.{Stacked}
use Rattle.reply_model.specs.declared.moves.Move.{Move}
use Rattle.reply_model.specs.declared.session.Session.{Session}
use Rattle.reply_model.specs.Moves.{balance, moves}
use Rattle.reply_model.specs.Readings.{IsReplyOver, Sourced}
use Rattle.reply_model.specs.Sessions.{session_after}
use Rattle.reply_model.specs.Streams.{AreReplies, moves_by, session_at}
use Rattle.reply_model.specs.Balances.{balance_at, IsLight, IsMoved}
use Rattle.reply_model.proofs.Sums.{light_on}
use Rattle.serve_loop.specs.declared.one_round.RoundEnd.{RoundEnd}
use Rattle.serve_loop.specs.Rounds.{AppendsRound, AreFirst, Output, joined}
use Rattle.serve_loop.proofs.Walking.{first_on, none_first, one_first, session_append}
use Rattle.reply_rounds.specs.declared.pieces.Piece.{Piece}
use Rattle.reply_rounds.specs.declared.gathered.RoundPieces.{RoundPieces}
use Rattle.reply_rounds.specs.Answers.{answering_from}
use Rattle.reply_rounds.specs.Jobs.{AreReplied, Job, moved_by}
use Rattle.reply_rounds.specs.Spread.{AnswerAll, AreAppended, AreFirstJobs, AreJobs, SpreadsFrom}
use Rattle.reply_rounds.proofs.Hands.{all_move, whole}
use Rattle.reply_rounds.proofs.Light.{AreBytes, message_light}

-- one more message, as a job after the others
pub jobs_on : (s : Session) (ms : List (List ℕ)) (js : List Job) (m : List ℕ) (j : Job) → AreJobs s ms js
    → j.0 ≡ session_at s (map asked ms) → asked_of j.1 ≡ asked m → AreJobs s (ms ++ m ∷ []) (js ++ j ∷ [])
jobs_on s [] [] m j a e f = (e, f, tt)
jobs_on s [] (x ∷ js) m j a e f = absurd a
jobs_on s (n ∷ ms) [] m j a e f = absurd a
jobs_on s (n ∷ ms) (x ∷ js) m j a e f = (a.0, a.1, jobs_on (session_after s (asked n).op) ms js m j a.2 e f)

-- no message, as no job
pub none_taken : (s : Session) (stream : List ℕ) (js : List Job) → js ≡ []
    → AreFirstJobs s stream (record { used = 0; messages = 0; session = s }) js
none_taken s stream js none = subst (AreFirstJobs s stream (record { used = 0; messages = 0; session = s })) (sym none)
    (record { messages = []; first = none_first stream; count = refl; session = refl; as_jobs = tt })

-- one more message, as the code cuts it
pub one_taken : (s : Session) (stream : List ℕ) (round : RoundEnd) (js all : List Job) (rest : List ℕ) (len : ℕ) (after : Session)
    (job : Job)
    → AreFirstJobs s stream round js → rest ≡ drop round.used stream → BeginsMessage rest len → job.0 ≡ round.session
    → asked_of job.1 ≡ asked (take len rest) → after ≡ session_after round.session (asked (take len rest)).op → all ≡ js ++ job ∷ []
    → AreFirstJobs s stream (record { used = round.used + len; messages = round.messages + 1; session = after }) all
one_taken s stream round js all rest len after job f e begins before asks next more =
    let m : List ℕ = take len rest in
    let there : AreFirst (drop round.used stream) (m ∷ []) len = subst (λ (r : List ℕ). AreFirst r (m ∷ []) len) e
    (one_first rest len begins) in
    record {
      messages = f.messages ++ m ∷ [];
      first = first_on stream f.messages (m ∷ []) round.used len f.first there;
      count = (let k = f.count in let n = length-append f.messages (m ∷ []) in omega arith);
      session = next ∙ ap (λ (t : Session). session_after t (asked m).op) f.session
          ∙ sym (session_append s (map asked f.messages) (asked m ∷ [])) ∙ ap (session_at s) (sym (map-append asked f.messages (m ∷ [])));
      as_jobs = subst (λ (xs : List Job). AreJobs s (f.messages ++ m ∷ []) xs) (sym more)
          (jobs_on s f.messages js m job f.as_jobs (before ∙ f.session) asks);
    }

-- jobs are replied to as their messages are
jobs_told : (by : Sourced) (s : Session) (ms : List (List ℕ)) (js : List Job) → AreJobs s ms js → (bytes : List ℕ)
    → AreReplied by js bytes → AreReplies (IsReplyOver by) s (map asked ms) bytes
jobs_told by s [] [] a bytes r = r
jobs_told by s [] (j ∷ js) a bytes r = absurd a
jobs_told by s (m ∷ ms) [] a bytes r = absurd a
jobs_told by s (m ∷ ms) (j ∷ js) a bytes (one, rest, is, told, more) = (
  one,
  rest,
  is,
  subst (λ (t : Session). IsReplyOver by t (asked m) one) a.0 (subst (λ (q : Asked). IsReplyOver by j.0 q one) a.1 told),
  jobs_told by (session_after s (asked m).op) ms js a.2 rest more,
)

module _ (stack : Stacked) where
  -- and move what their messages move
  jobs_moved : (s : Session) (ms : List (List ℕ)) (js : List Job) → AreJobs s ms js
      → flat_map (moved_by stack) js ≡ moves_by (moves stack) s (map asked ms)
  jobs_moved s [] [] a = refl
  jobs_moved s [] (j ∷ js) a = absurd a
  jobs_moved s (m ∷ ms) [] a = absurd a
  jobs_moved s (m ∷ ms) (j ∷ js) a =
      let one : moved_by stack j ≡ moves stack s (asked m) =
      ap (λ t. moves stack t (asked_of j.1)) a.0 ∙ ap (moves stack s) a.1 in
      ap (λ xs. xs ++ flat_map (moved_by stack) js) one
      ∙ ap (λ xs. moves stack s (asked m) ++ xs) (jobs_moved (session_after s (asked m).op) ms js a.2)

front_bytes : (m r : List ℕ) → AreBytes (m ++ r) → AreBytes m
front_bytes [] r b k = omega arith
front_bytes (x ∷ m) r b zero = b 0
front_bytes (x ∷ m) r b (suc k) = front_bytes m r (λ i. b (suc i)) k

back_bytes : (m r : List ℕ) → AreBytes (m ++ r) → AreBytes r
back_bytes [] r b = b
back_bytes (x ∷ m) r b = back_bytes m r (λ i. b (suc i))

-- what messages move is light
messages_light : (stack : Stacked) (s : Session) (ms : List (List ℕ)) → AllByRecursion IsMessage ms → AreBytes (joined ms)
    → IsLight (moves_by (moves stack) s (map asked ms)) (length (joined ms))
messages_light stack s [] each b = omega arith
messages_light stack s (m ∷ ms) each b =
    subst (λ n. IsLight (moves_by (moves stack) s (map asked (m ∷ ms))) n) (sym (length-append m (joined ms)))
    (light_on _ _ _ _ (message_light stack s m each.0 (front_bytes m (joined ms) b))
    (messages_light stack (session_after s (asked m).op) ms each.1 (back_bytes m (joined ms) b)))

-- moves with the same balances move the same
moved_same : (xs ys : List Move) (a b : List ℤ) → ((node : ℕ) → balance node xs ≡ balance node ys) → IsMoved xs a b → IsMoved ys a b
moved_same xs ys a b e m = record { same = m.same; each = λ i h. (m.each i h ∙ ap (λ z. balance_at a i +ℤ z) (e (i + 1))) }

-- the pieces of all batches of the first messages' jobs, appended in order, are a round
pub by_jobs : {A : Type 0} (first : Session) (by : Sourced) (s : Session) (stream : List ℕ) (round : RoundEnd) (jobs : List Job)
    (size : ℕ) (pieces : List (Piece A)) (old new : Output) → 1 ≤ size → ((k : ℕ) → slice_index stream k < 256)
    → AreFirstJobs s stream round jobs → (0 < round.messages) ⊎ IsRest (drop round.used stream) → AnswerAll by jobs size pieces
    → AreAppended pieces old new → AppendsRound (answering_from first by) s stream round old new
by_jobs first by s stream round jobs size pieces old new some bytes f o a p = (
  flat_map (λ piece. piece.bytes.items) p.ordered,
  p.bytes,
  record {
    messages = f.messages;
    first = f.first;
    count = f.count;
    answered = record {
      session = f.session;
      told = jobs_told by s f.messages jobs f.as_jobs (flat_map (λ piece. piece.bytes.items) p.ordered)
          ((whole by jobs size pieces some a.answered a.once).replies p.ordered p.order);
      moves = moved_same (flat_map (λ piece. piece.moves.items) p.ordered) (moves_by (moves by.stack) s
          (map asked f.messages)) old.balances new.balances
          (λ node. (all_move by jobs size pieces p.ordered node some a.answered a.once p.order
          ∙ ap (balance node) (jobs_moved by.stack s f.messages jobs f.as_jobs))) p.moves;
      light = messages_light by.stack s f.messages f.first.each
          (front_bytes (joined f.messages) (drop round.used stream) (subst (λ (v : List ℕ). (k : ℕ) → slice_index v k < 256) f.first.whole
          bytes));
    };
    some = elim o [ inl h ↦ inl (let k = f.count in omega arith) | inr r ↦ inr r ];
  },
)

-- the same for what workers returned
pub by_spread : {A : Type 0} (first : Session) (by : Sourced) (s : Session) (stream : List ℕ) (spread : RoundPieces A) (old new : Output)
    → SpreadsFrom by s stream spread → AreAppended spread.pieces.items old new
    → AppendsRound (answering_from first by) s stream spread.round old new
by_spread first by s stream spread old new o a =
    by_jobs first by s stream spread.round o.jobs o.size spread.pieces.items old new o.sized o.bytes o.first o.some o.answered a
