use Rattle.std.proofs.Common.{rules, ap, arith}
use Rattle.draw_board.proofs.Rule.{announces, splits}
use Rattle.draw_board.proofs.board.Board.split.Goals as goal

pub compare_exchange-requires : goal.compare_exchange-requires
compare_exchange-requires g c = (search rules, search rules, announces _ _ _ _ _)

pub split_seat-seat-requires : goal.split_seat-seat-requires
split_seat-seat-requires g c = (
  search rules,
  search rules,
  let asked = ap (λ m. m.0.asked) c.compare_exchange.ensures.2 in let same = ap (λ m. m.0.left) c.compare_exchange.ensures.2 in let told =
      c.requires.left in
      let fewer = c.if-hand-misses.false in let some = c.if-misses-eq0.false in splits _ _ _ (grind arith) (omega arith),
)
