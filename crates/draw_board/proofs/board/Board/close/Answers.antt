use Rattle.std.proofs.Common.{◌∙◌, ℕ, ap, arith, map}
use Rattle.draw_board.specs.Counter.{drawn_at}
use Rattle.draw_board.specs.Hands.{total_of}
use Rattle.draw_board.specs.Positions.{numbers}
use Rattle.draw_board.proofs.Numbers.{all_numbers}
use Rattle.draw_board.proofs.Rule.{closes}
use Rattle.draw_board.proofs.board.Board.close.Goals as goal

pub returns-clause-positions : goal.returns-clause-positions
returns-clause-positions g c = (closes _ _ _ _ _ _ c.requires.1 c.close_with-closed.ensures.values.2 c.word-drawn.ensures).0

pub returns-clause-history : goal.returns-clause-history
returns-clause-history g c = ap (λ ps. map (drawn_at (total_of c.args.self)) ps)
    (closes _ _ _ _ _ _ c.requires.1 c.close_with-closed.ensures.values.2 c.word-drawn.ensures).0

pub returns-clause-numbers : goal.returns-clause-numbers
returns-clause-numbers g c missed = let all = closes _ _ _ _ _ _ c.requires.1
    c.close_with-closed.ensures.values.2 c.word-drawn.ensures in let below = all.1 in
    let total : ℕ = total_of c.args.self in
    let told = c.requires.0.told.0 in let left = c.requires.0.left in
    let saw = c.requires.0.sound.missed (omega arith) in
    ap (numbers total) all.0 ∙ all_numbers total _ (omega arith)
