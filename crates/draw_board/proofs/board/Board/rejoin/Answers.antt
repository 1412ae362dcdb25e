use Rattle.std.proofs.Common.{rules, ap, arith, ◌∙◌}
use Rattle.draw_board.proofs.Rule.{joins, looks}
use Rattle.draw_board.proofs.Rising.{unites}
use Rattle.draw_board.proofs.board.Board.rejoin.Goals as goal

pub join_seat-requires : goal.join_seat-requires
join_seat-requires g c = (search rules, search rules, search rules, search rules, joins _ _ _ _ _ (search rules) (search rules))

pub load-requires : goal.load-requires
load-requires g c = (
  search rules,
  search rules,
  looks _ _ _ _
      (let shares = ap (λ m. m.0.share) c.join_seat.ensures.2 in let live = c.requires.0.live in omega arith),
)

pub returns-clause-positions : goal.returns-clause-positions
returns-clause-positions g c = unites _ _ _ _ (ap (λ m. m.0.positions) (c.load.ensures.2.0 ∙ c.join_seat.ensures.2))
    c.load.ensures.2.1.rises
