-- The effect of a worker's call on its hand, and of hands that draw only by such calls.
use Rattle.std.specs.Prelude.{◌≡◌, ℕ, ◌+◌, ◌≤◌, List, [], ◌++◌, length, IsOkAnd, Result}
use Rattle.std.specs.declared.vec.Vec.{Vec}
use Rattle.std.specs.List.{All, flat_map, range_with_len}
use Rattle.serve_loop.specs.declared.limits.TheConstants.{MAX_ROUND_MESSAGES}
use Rattle.draw_board.specs.declared.limits.TheConstants.{MAX_BATCH}
use Rattle.draw_board.specs.declared.board.Board.{Board}
use Rattle.draw_board.specs.declared.hand.Hand.{Hand}
use Rattle.draw_board.specs.Hands.{IsHandOf, KeepsShare, MovesMisses, TakesIn, left, positions, seen_below, total_of}
use Rattle.draw_board.specs.Positions.{Unites, numbers, times}
use Rattle.reply_model.specs.Readings.{Sourced}
use Rattle.reply_rounds.specs.declared.pieces.Piece.{Piece}
use Rattle.reply_rounds.specs.Batches.{AreOrdered, IsPiece, batches, numbers_of}
use Rattle.reply_model.specs.Moves.{balance}
use Rattle.reply_rounds.specs.Jobs.{AreReplied, Job, moved_by}

-- the hand stays one of the board, with its share, and keeps what it drew before
pub record KeepsHand {B : Type 0} (board : Board B) (old new : Hand) : Type 0 where
  pub share : KeepsShare board old new
  pub added : List ℕ
  pub kept : positions new ≡ positions old ++ added

-- this many workers can draw with this hand, which has drawn nothing yet
pub record CanDraw {B : Type 0} (jobs : List Job) (size : ℕ) (board : Board B) (hand : Hand)
    (workers : ℕ) : Type 0 where
  pub few : length jobs ≤ MAX_ROUND_MESSAGES
  pub sized : (1 ≤ size) × (size ≤ MAX_BATCH)
  pub total : total_of board ≡ batches size (length jobs)
  pub of_board : IsHandOf board hand
  pub fresh : positions hand ≡ []
  pub misses : workers ≤ left hand

-- a worker drew until no number was left: its pieces have the numbers that the call added to its
-- hand, in their order, each with the batch of that number answered
pub record HasWorked {A B : Type 0} (by : Sourced) (jobs : List Job) (size : ℕ) (board : Board B)
    (old new : Hand) (pieces : List (Piece A)) : Type 0 where
  pub added : List ℕ
  pub drawn : positions new ≡ positions old ++ added
  pub told : numbers_of pieces ≡ numbers (total_of board) added
  pub answered : All (IsPiece by jobs size) pieces
  pub every : total_of board ≤ seen_below new

-- the pieces of a hand: one for each number that it drew, with the batch of that number answered
pub record AreOf {A B : Type 0} (by : Sourced) (jobs : List Job) (size : ℕ) (board : Board B)
    (hand : Hand) (pieces : List (Piece A)) : Type 0 where
  pub told : (number : ℕ)
      → times number (numbers_of pieces) ≡ times number (numbers (total_of board) (positions hand))
  pub answered : All (IsPiece by jobs size) pieces

-- the same for a worker's hand that had drawn nothing, once all is drawn
pub record HasAll {A B : Type 0} (by : Sourced) (jobs : List Job) (size : ℕ) (board : Board B)
    (hand : Hand) (pieces : List (Piece A)) : Type 0 where
  pub of_hand : AreOf by jobs size board hand pieces
  pub every : total_of board ≤ seen_below hand

-- the pieces of two workers, one after the other, if both returned theirs
abbrev pub AreBoth : {A E : Type 0} → Result (Vec (Piece A) A) E → Result (Vec (Piece A) A) E
    → List (Piece A) → Type 0
AreBoth pieces more all =
    IsOkAnd pieces (λ xs. IsOkAnd more (λ ys. all ≡ xs.items ++ ys.items))

-- a hand that draws only with `work`, the pieces from it and from the hands that it took over, and
-- how many calls there were, each with enough memory
pub data WorksAlone {A B : Type 0} (by : Sourced) (jobs : List Job) (size : ℕ) (board : Board B)
    : Hand → List (Piece A) → ℕ → Type 0 where
  begins : {hand : Hand} → positions hand ≡ [] → WorksAlone by jobs size board hand [] 0
  gives : {old new other : Hand} {pieces : List (Piece A)} {calls misses : ℕ}
      → WorksAlone by jobs size board old pieces calls
      → MovesMisses board old new other misses
      → WorksAlone by jobs size board new pieces calls
  works : {old new : Hand} {pieces more : List (Piece A)} {calls : ℕ}
      → WorksAlone by jobs size board old pieces calls
      → HasWorked by jobs size board old new more
      → WorksAlone by jobs size board new (pieces ++ more) (calls + 1)
  takes : {old other new : Hand} {mine others : List (Piece A)} {calls more : ℕ}
      → WorksAlone by jobs size board old mine calls
      → WorksAlone by jobs size board other others more
      → Unites (positions old) (positions other) (positions new)
      → TakesIn board old other new
      → WorksAlone by jobs size board new (mine ++ others) (calls + more)

-- the hand with the draws of all hands, as a board is closed with it after this many draws
pub record IsLast (hand : Hand) (draws : ℕ) : Type 0 where
  pub positions : positions hand ≡ range_with_len 0 draws
  pub seen : seen_below hand ≤ draws

-- each batch is answered once, and none is left out; in the order of their numbers the pieces have
-- the replies to all jobs, and move of each node what all jobs move
pub record AreWhole {A : Type 0} (by : Sourced) (jobs : List Job) (size : ℕ)
    (pieces : List (Piece A)) : Type 0 where
  pub once : (number : ℕ) → times number (numbers_of pieces)
      ≡ times number (range_with_len 0 (batches size (length jobs)))
  pub replies : (ordered : List (Piece A)) → AreOrdered pieces ordered
      → AreReplied by jobs (flat_map (λ piece. piece.bytes.items) ordered)
  pub moves : (ordered : List (Piece A)) → AreOrdered pieces ordered → (node : ℕ)
      → balance node (flat_map (λ piece. piece.moves.items) ordered)
      ≡ balance node (flat_map (moved_by by.stack) jobs)
