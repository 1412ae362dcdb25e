-- A round: some of the first messages of a stream, answered one after another.
use Rattle.std.specs.Prelude.{◌≡◌, ℕ, ◌<◌, ◌⊎◌, ℤ, List, ◌++◌, length, map, drop, Option}
use Rattle.std.specs.List.{AllByRecursion, flat_map}
use Rattle.fuse_wire.specs.Stream.{IsMessage, IsRest}
use Rattle.fuse_wire.specs.Requests.{Asked, asked}
use Rattle.fuse_wire.specs.Told.{Reading, IsTold}
use Rattle.reply_model.specs.declared.session.Session.{Session}
use Rattle.reply_model.specs.Sessions.{session_after}
use Rattle.reply_model.specs.Streams.{AreReplies, session_at}
use Rattle.serve_loop.specs.declared.one_round.RoundEnd.{RoundEnd}
use Rattle.reply_model.specs.Balances.{IsLight, IsMoved}
use Rattle.reply_model.specs.declared.moves.Move.{Move}
use Rattle.reply_model.specs.Streams.{moves_by}

-- the bytes of messages one after another
abbrev pub joined : List (List ℕ) → List ℕ
joined messages = flat_map (λ m. m) messages

-- what answers requests: the session in which a stream begins; in a session the reply to a request,
-- and its moves; and what the data of its reply are read from, if they are
pub record Answering : Type 0 where
  pub first : Session
  pub reply : Session → Asked → List ℕ
  pub moved : Session → Asked → List Move
  pub reading : Asked → Option Reading

-- these bytes are a possible reply to a request
abbrev pub IsReply : Answering → Session → Asked → List ℕ → Type 0
IsReply by s q bytes = IsTold (by.reading q) q.unique (by.reply s q) bytes

-- the old and the new balances
pub record Balances : Type 0 where
  pub old : List ℤ
  pub new : List ℤ

-- how balances changed
abbrev pub change : List ℤ → List ℤ → Balances
change old new = record { old = old; new = new }

-- one message is answered with these bytes, and leaves this session
pub record IsAnswered (by : Answering) (s : Session) (m : List ℕ) (after : Session) (put : List ℕ)
    (b : Balances) : Type 0 where
  pub session : after ≡ session_after s (asked m).op
  pub told : IsReply by s (asked m) put
  pub moves : IsMoved (by.moved s (asked m)) b.old b.new
  pub light : IsLight (by.moved s (asked m)) (length m)

-- these are the first messages of a stream, with this many bytes
pub record AreFirst (stream : List ℕ) (messages : List (List ℕ)) (used : ℕ) : Type 0 where
  pub whole : stream ≡ joined messages ++ drop used stream
  pub each : AllByRecursion IsMessage messages
  pub size : used ≡ length (joined messages)

-- these messages are answered with these bytes, and leave this session
pub record AreAnswered (by : Answering) (s : Session) (messages : List (List ℕ)) (after : Session)
    (put : List ℕ) (b : Balances) : Type 0 where
  pub session : after ≡ session_at s (map asked messages)
  pub told : AreReplies (IsReply by) s (map asked messages) put
  pub moves : IsMoved (moves_by by.moved s (map asked messages)) b.old b.new
  pub light : IsLight (moves_by by.moved s (map asked messages)) (length (joined messages))

-- a round answered the first messages of a stream with these bytes: at least one, if one is
-- complete
pub record IsRound (by : Answering) (s : Session) (stream : List ℕ) (round : RoundEnd)
    (put : List ℕ)
    (b : Balances) : Type 0 where
  pub messages : List (List ℕ)
  pub first : AreFirst stream messages round.used
  pub count : round.messages ≡ length messages
  pub answered : AreAnswered by s messages round.session put b
  pub some : (0 < length messages) ⊎ IsRest (drop round.used stream)

-- what an answer is added to: the replies so far, and the balances
pub record Output : Type 0 where
  pub replies : List ℕ
  pub balances : List ℤ

-- the same, from its parts
abbrev pub output : List ℕ → List ℤ → Output
output replies balances = record { replies = replies; balances = balances }

-- the reply to a message is appended to the replies, and its moves are added to the balances
abbrev pub AppendsAnswer : Answering → Session → List ℕ → Session → Output → Output → Type 0
AppendsAnswer by s m after old new =
    (put : List ℕ) × (new.replies ≡ old.replies ++ put)
    × IsAnswered by s m after put (change old.balances new.balances)

-- the same for the messages of a round
abbrev pub AppendsRound : Answering → Session → List ℕ → RoundEnd → Output → Output → Type 0
AppendsRound by s stream round old new =
    (put : List ℕ) × (new.replies ≡ old.replies ++ put)
    × IsRound by s stream round put (change old.balances new.balances)
