-- A round of a stream as jobs, and the sum of its pieces.
use Rattle.std.specs.Prelude.{◌≡◌, ℕ, ◌<◌, ◌≤◌, ◌^◌, ◌⊎◌, List, [], ◌∷◌, ◌++◌, length, drop, map, slice_index}
use Rattle.std.specs.List.{All, flat_map, range_with_len}
use Rattle.serve_loop.specs.declared.limits.TheConstants.{MAX_ROUND_MESSAGES}
use Rattle.fuse_wire.specs.Reads.{asked_of}
use Rattle.fuse_wire.specs.Requests.{asked}
use Rattle.fuse_wire.specs.Stream.{IsRest}
use Rattle.draw_board.specs.Positions.{times}
use Rattle.reply_model.specs.declared.session.Session.{Session}
use Rattle.reply_model.specs.Readings.{Sourced}
use Rattle.reply_model.specs.Sessions.{session_after}
use Rattle.reply_model.specs.Streams.{session_at}
use Rattle.reply_model.specs.Balances.{IsMoved}
use Rattle.serve_loop.specs.declared.one_round.RoundEnd.{RoundEnd}
use Rattle.serve_loop.specs.Rounds.{AreFirst, Output}
use Rattle.reply_rounds.specs.declared.pieces.Piece.{Piece}
use Rattle.reply_rounds.specs.declared.gathered.RoundPieces.{RoundPieces}
use Rattle.reply_rounds.specs.Batches.{AreEachOnce, AreLight, AreOrdered, IsPiece, batches, numbers_of}
use Rattle.reply_rounds.specs.Jobs.{Job}

-- these are messages as jobs: each as it is read, with the session before it
abbrev pub AreJobs : Session → List (List ℕ) → List Job → Type 0
AreJobs s [] [] = Unit {0}
AreJobs s [] (job ∷ jobs) = ⊥
AreJobs s (m ∷ messages) [] = ⊥
AreJobs s (m ∷ messages) (job ∷ jobs) =
    (job.0 ≡ s) × (asked_of job.1 ≡ asked m) × AreJobs (session_after s (asked m).op) messages jobs

-- some of the first messages of a stream, as jobs
pub record AreFirstJobs (s : Session) (stream : List ℕ) (round : RoundEnd)
    (jobs : List Job) : Type 0 where
  pub messages : List (List ℕ)
  pub first : AreFirst stream messages round.used
  pub count : round.messages ≡ length messages
  pub session : round.session ≡ session_at s (map asked messages)
  pub as_jobs : AreJobs s messages jobs

-- each batch of the jobs is answered once
pub record AnswerAll {A : Type 0} (by : Sourced) (jobs : List Job) (size : ℕ)
    (pieces : List (Piece A)) : Type 0 where
  pub once : (number : ℕ) → times number (numbers_of pieces)
      ≡ times number (range_with_len 0 (batches size (length jobs)))
  pub answered : All (IsPiece by jobs size) pieces
  pub light : AreLight pieces

-- this many of the first messages of a stream may be answered by workers
pub record IsSpreadable (stream : List ℕ) (messages : ℕ) : Type 0 where
  pub some : 1 ≤ messages
  pub few : messages ≤ MAX_ROUND_MESSAGES
  pub short : length stream ≤ 2 ^ 57

-- some of the first messages of a stream, at least one if one is complete, are answered in pieces
pub record SpreadsFrom {A : Type 0} (by : Sourced) (s : Session) (stream : List ℕ)
    (spread : RoundPieces A) : Type 0 where
  pub jobs : List Job
  pub first : AreFirstJobs s stream spread.round jobs
  pub bytes : (k : ℕ) → slice_index stream k < 256
  pub some : (0 < spread.round.messages) ⊎ IsRest (drop spread.round.used stream)
  pub size : ℕ
  pub sized : 1 ≤ size
  pub answered : AnswerAll by jobs size spread.pieces.items
  pub once : AreEachOnce spread.pieces.items

-- bytes of pieces are appended in the order of their numbers, and their moves added to balances
pub record AreAppended {A : Type 0} (pieces : List (Piece A)) (old new : Output) : Type 0 where
  pub ordered : List (Piece A)
  pub order : AreOrdered pieces ordered
  pub bytes : new.replies ≡ old.replies ++ flat_map (λ piece. piece.bytes.items) ordered
  pub moves : IsMoved (flat_map (λ piece. piece.moves.items) ordered) old.balances new.balances
