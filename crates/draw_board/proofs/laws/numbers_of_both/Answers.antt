use Rattle.draw_board.proofs.Numbers.{both_numbers}
use Rattle.draw_board.proofs.laws.numbers_of_both.Goals as goal

pub returns : goal.returns
returns c = both_numbers
