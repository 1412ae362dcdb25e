-- A board and its hands, and what a call changes.
use Rattle.std.specs.Prelude.{◌≡◌, ℕ, ◌+◌, ◌-◌, ◌<◌, ◌≤◌, max, List, [], ◌∷◌, ◌++◌, Option, MatchOption, map}
use Rattle.atomic_table.specs.Seated.{TableId}
use Rattle.draw_board.specs.declared.hand.Hand.{Hand}
use Rattle.draw_board.specs.declared.board.Board.{Board}
use Rattle.draw_board.specs.Counter.{Drawn, draw_answer, drawn_at}
use Rattle.draw_board.specs.Views.{Key, IsSoundView, known_key}

-- the numbers to be drawn are those below the total
abbrev pub total_of : {A : Type 0} → Board A → ℕ
total_of board = board.table.shared.key.0

-- the misses of all the board's hands at the start
abbrev pub misses_of : {A : Type 0} → Board A → ℕ
misses_of board = board.table.shared.key.1

-- the positions of the hand's draws
abbrev pub positions : Hand → List ℕ
positions hand = hand.seat.me.0.positions

-- the hand's draws, each with its answer
abbrev pub draws : ℕ → Hand → List Drawn
draws total hand = map (drawn_at total) (positions hand)

-- the misses that the hand has left
abbrev pub left : Hand → ℕ
left hand = hand.misses

-- the misses that the hand has left, and those that it has spent
abbrev pub share : Hand → ℕ
share hand = hand.seat.me.0.share

-- the hand knows that each position below this one was drawn
abbrev pub seen_below : Hand → ℕ
seen_below hand = hand.seat.me.0.seen

-- the hand belongs to the board with this word, total and misses
pub record IsOf (word : TableId) (key : Key) (hand : Hand) : Type 0 where
  pub of_word : hand.seat.table_id ≡ word
  pub told : (hand.seat.me.0.total ≡ key.0) × (hand.seat.me.0.misses ≡ key.1)
  pub left : hand.seat.me.0.left ≡ hand.misses
  pub live : 1 ≤ hand.seat.me.0.share
  pub bare : hand.seat.me.1 ≡ []
  pub sound : IsSoundView hand.seat.me.0

-- the hand belongs to this board
abbrev pub IsHandOf : {A : Type 0} → Board A → Hand → Type 0
IsHandOf board hand = IsOf board.table.shared.table_id board.table.shared.key hand

-- a board as it starts
abbrev pub IsBoard : {A : Type 0} → Board A → ℕ → ℕ → Type 0
IsBoard board total misses = (total_of board ≡ total) × (misses_of board ≡ misses)

-- a board's first hand has all misses, no position, and knows nothing
pub record IsFirstHand {A : Type 0} (board : Board A) (hand : Hand) : Type 0 where
  pub of_board : IsHandOf board hand
  pub left : left hand ≡ misses_of board
  pub share : share hand ≡ misses_of board
  pub positions : positions hand ≡ []
  pub seen : seen_below hand ≡ 0

-- the hand stays one of the board, with the same share
abbrev pub KeepsShare : {A : Type 0} → Board A → Hand → Hand → Type 0
KeepsShare board old new = IsHandOf board new × (share new ≡ share old)

-- what a thread may promise about a hand that it is lent: one of the same board, with the same
-- share
abbrev pub GivesBack : Hand → Hand → Type 0
GivesBack lent back =
    IsOf lent.seat.table_id (known_key lent.seat.me.0) back × (share back ≡ share lent)

-- a draw of the counter, at a position new to the hand, is added to the hand's
pub record TakesDraw (total : ℕ) (old new : Hand) (answer : Option ℕ) : Type 0 where
  pub position : ℕ
  pub answered : answer ≡ draw_answer total position
  pub unseen : seen_below old ≤ position
  pub added : positions new ≡ positions old ++ position ∷ []
  pub noted : seen_below new ≡ position + 1

-- an answer of nothing spends one miss, and a number spends none
abbrev pub SpendsMissAtNone : Hand → Hand → Option ℕ → Type 0
SpendsMissAtNone old new answer =
    MatchOption answer (left new + 1 ≡ left old) (λ _. left new ≡ left old)

-- a number is drawn at the position of the same number
abbrev pub TakesNumber : ℕ → Hand → Hand → ℕ → Type 0
TakesNumber total old new number = (number < total) × (positions new ≡ positions old ++ number ∷ [])

-- some misses go from the giver, which keeps some, to another hand, which has drawn nothing, and
-- knows what the giver knew
pub record MovesMisses {A : Type 0} (board : Board A) (old new other : Hand)
    (misses : ℕ) : Type 0 where
  pub some_moved : 0 < misses
  pub some_kept : misses < left old
  pub giver_of_board : IsHandOf board new
  pub giver_left : left new ≡ left old - misses
  pub giver_share : share new ≡ share old - misses
  pub giver_positions : positions new ≡ positions old
  pub giver_seen : seen_below new ≡ seen_below old
  pub other_of_board : IsHandOf board other
  pub other_left : left other ≡ misses
  pub other_share : share other ≡ misses
  pub other_positions : positions other ≡ []
  pub other_seen : seen_below other ≡ seen_below old

-- the hand has the misses of both, and knows what both knew
pub record TakesIn {A : Type 0} (board : Board A) (old other new : Hand) : Type 0 where
  pub of_board : IsHandOf board new
  pub left : left new ≡ left old + left other
  pub share : share new ≡ share old + share other
  pub seen : seen_below new ≡ max (seen_below old) (seen_below other)
