use Rattle.draw_board.specs.Hands.{KeepsShare}
use Rattle.worker_tests.proofs.tests.drawing.draw_all.Given as goal

-- the hand stays one of the board, with the same share
abbrev pub invariant-loop : goal.invariant-loop
invariant-loop l = KeepsShare l.board l.initial.hand l.hand
