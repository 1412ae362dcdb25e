use Rattle.std.proofs.Common.{arith}
use Rattle.std.proofs.lemmas.Grind.{common_steps}
use Rattle.std.proofs.lemmas.Result.{IfOk-weaker}
use Rattle.fuse_answer.specs.Puts.{sourced_by}
use Rattle.reply_rounds.proofs.Hands.{both_all, fresh_all, light_both}
use Rattle.reply_pool.proofs.workers.+crew.Goals as goal

pub returns-clause-pieces : goal.returns-clause-pieces
returns-clause-pieces g t c = both_all (sourced_by g.D.Contents.source c.args.served) c.args.jobs.now c.args.size c.args.board.now _ _ _
    c.both.result _ _
    c.rejoin.ensures.positions
    c.rejoin.ensures.hand.seen c.both.ensures c.join-mine.ensures.first.1.0 c.join-mine.ensures.second.1.0

pub returns-clause-light : goal.returns-clause-light
returns-clause-light g t c = light_both c.both.result _ _ c.both.ensures c.join-mine.ensures.first.1.1 c.join-mine.ensures.second.1.1

pub returns-then-workers-le1-clause-hand : goal.returns-then-workers-le1-clause-hand
returns-then-workers-le1-clause-hand g t c = c.work-pieces.ensures.hand.share

pub returns-then-workers-le1-clause-pieces : goal.returns-then-workers-le1-clause-pieces
returns-then-workers-le1-clause-pieces g t c =
    IfOk-weaker c.work-pieces.result _ _
    (λ pieces worked. fresh_all (sourced_by g.D.Contents.source c.args.served) c.args.jobs.now c.args.size c.args.board.now c.args.hand
    c.work-pieces.new.hand
    pieces.items c.requires.draws.fresh worked) c.work-pieces.ensures.pieces

pub work-pieces-requires-clause-few : goal.work-pieces-requires-clause-few
work-pieces-requires-clause-few g t c κs within = c.requires.draws.few

pub work-pieces-requires-clause-size : goal.work-pieces-requires-clause-size
work-pieces-requires-clause-size g t c κs within = c.requires.draws.sized

pub work-pieces-requires-clause-total : goal.work-pieces-requires-clause-total
work-pieces-requires-clause-total g t c κs within = c.requires.draws.total

pub work-pieces-requires-clause-hand : goal.work-pieces-requires-clause-hand
work-pieces-requires-clause-hand g t c κs within = c.requires.draws.of_board

pub returns-then-workers-le1-clause-light : goal.returns-then-workers-le1-clause-light
returns-then-workers-le1-clause-light g t c = c.work-pieces.ensures.light

pub overflow_sub-high : goal.overflow_sub-high
overflow_sub-high g t c = omega arith

pub split-requires : goal.split-requires
split-requires g t c = c.requires.draws.of_board

pub rejoin-requires : goal.rejoin-requires
rejoin-requires g t c = (c.join-mine.ensures.first.0.0, c.join-mine.ensures.second.0.0)

pub unreachable-unreachable : goal.unreachable-unreachable
unreachable-unreachable g t c = omega arith

pub unreachable-requires : goal.unreachable-requires
unreachable-requires g t c = grind (arith, common_steps)

pub both-requires : goal.both-requires
both-requires g t c κs = grind (arith, common_steps)

pub returns-clause-hand : goal.returns-clause-hand
returns-clause-hand g t c = grind (arith, common_steps)

pub join+arg2-draw_all-requires : goal.join+arg2-draw_all-requires
join+arg2-draw_all-requires g t c κs within = grind (arith, common_steps)

pub join+arg2-returns : goal.join+arg2-returns
join+arg2-returns g t c = grind (arith, common_steps)

pub join+arg3-draw_all-requires : goal.join+arg3-draw_all-requires
join+arg3-draw_all-requires g t c κs within = grind (arith, common_steps)

pub join+arg3-returns : goal.join+arg3-returns
join+arg3-returns g t c = grind (arith, common_steps)
