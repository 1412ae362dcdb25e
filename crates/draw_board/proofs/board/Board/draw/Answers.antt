use Rattle.std.proofs.Common.{rules}
use Rattle.draw_board.proofs.Rule.{draws}
use Rattle.draw_board.proofs.board.Board.draw.Goals as goal

pub fetch_add-position-requires : goal.fetch_add-position-requires
fetch_add-position-requires g c = (search rules, search rules, draws _ _ _ _ (search rules) (search rules))
