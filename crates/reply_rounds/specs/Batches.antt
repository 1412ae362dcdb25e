-- Jobs in batches, and the pieces that answer batches.
use Rattle.std.specs.Prelude.{◌≡◌, ℕ, ◌+◌, ◌-◌, ◌*◌, ◌/◌, ◌^◌, ◌≤◌, List, take, drop, map}
use Rattle.std.specs.List.{All, flat_map, range_with_len}
use Rattle.std.specs.List.Sorted.{IsPermutation, IsNonDecreasingBy}
use Rattle.serve_loop.specs.declared.limits.TheConstants.{MAX_ROUND_MESSAGES}
use Rattle.draw_board.specs.Positions.{times}
use Rattle.reply_model.specs.Readings.{Sourced}
use Rattle.reply_model.specs.Balances.{weight}
use Rattle.reply_rounds.specs.declared.pieces.Rounded.{Rounded}
use Rattle.reply_rounds.specs.declared.pieces.Piece.{Piece}
use Rattle.reply_rounds.specs.Jobs.{AreReplied, Job, moved_by}
use Rattle.reply_rounds.specs.Sums.{AreSums}

-- how many batches this many jobs have; the last may be smaller
abbrev pub batches : ℕ → ℕ → ℕ
batches size jobs = (jobs + size - 1) / size

-- batch k holds the jobs from k times its size on
abbrev pub batch_of : ℕ → ℕ → List Job → List Job
batch_of size number jobs = take size (drop (number * size) jobs)

-- a batch's replies one after another, and the sums of its jobs' moves by node
pub record IsPiece {A : Type 0} (by : Sourced) (jobs : List Job) (size : ℕ)
    (piece : Piece A) : Type 0 where
  pub replies : AreReplied by (batch_of size piece.number jobs) piece.bytes.items
  pub sums : AreSums (flat_map (moved_by by.stack) (batch_of size piece.number jobs))
      piece.moves.items

-- the moves of a piece add up to far less than 128 bits hold
abbrev pub AreLight : {A : Type 0} → List (Piece A) → Type 0
AreLight pieces = All (λ piece. weight piece.moves.items ≤ 2 ^ 104) pieces

-- the numbers of pieces, in their order
abbrev pub numbers_of : {A : Type 0} → List (Piece A) → List ℕ
numbers_of pieces = map (λ piece. piece.number) pieces

-- each number below a count of at most that of a round occurs once among the pieces
pub record AreEachOnce {A : Type 0} (pieces : List (Piece A)) : Type 0 where
  pub count : ℕ
  pub few : count ≤ MAX_ROUND_MESSAGES
  pub once : (number : ℕ)
      → times number (numbers_of pieces) ≡ times number (range_with_len 0 count)

-- the same pieces, in the order of their numbers
pub record AreOrdered {A : Type 0} (pieces ordered : List (Piece A)) : Type 0 where
  pub same : IsPermutation pieces ordered
  pub rising : IsNonDecreasingBy (λ piece. piece.number) ordered

-- the bytes of pieces in the order of their numbers, and the sums of all their moves
pub record IsJoined {A : Type 0} (pieces : List (Piece A)) (rounded : Rounded A) : Type 0 where
  pub ordered : List (Piece A)
  pub order : AreOrdered pieces ordered
  pub bytes : rounded.bytes.items ≡ flat_map (λ piece. piece.bytes.items) ordered
  pub moves : AreSums (flat_map (λ piece. piece.moves.items) ordered) rounded.moves.items
