use Rattle.std.proofs.Common.{◌≡◌, ◌-◌, ◌++◌, List, ℕ}
use Rattle.std.specs.List.{All}
use Rattle.draw_board.specs.Hands.{KeepsShare, positions, seen_below, total_of}
use Rattle.draw_board.specs.Positions.{numbers}
use Rattle.fuse_answer.specs.Puts.{sourced_by}
use Rattle.reply_rounds.specs.Batches.{AreLight, IsPiece, numbers_of}
use Rattle.reply_pool.proofs.worker.work.Given as goal

-- a piece for each number that the hand has drawn so far, which answers its batch and is light
abbrev pub invariant-loop-number : goal.invariant-loop-number
invariant-loop-number g l = record {
  share : KeepsShare l.board l.initial.hand l.hand;
  added : List ℕ;
  drawn : positions l.hand ≡ positions l.initial.hand ++ added;
  told : numbers_of l.pieces.items ≡ numbers (total_of l.board) added;
  answered : All (IsPiece (sourced_by g.D.Contents.source l.served) l.jobs l.size) l.pieces.items;
  light : AreLight l.pieces.items;
}

-- each turn leaves fewer numbers that are new to the hand
abbrev pub decreases-loop-number : goal.decreases-loop-number
decreases-loop-number g l = total_of l.board - seen_below l.hand
