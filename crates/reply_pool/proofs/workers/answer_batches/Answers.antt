use denote.Param.{copied}
use Rattle.std.proofs.Common.{◌∙◌, sym}
use Rattle.fuse_answer.specs.Puts.{sourced_by}
use Rattle.node_reader.proofs.Shared.{tables_are_shared}
use Rattle.reply_rounds.proofs.Hands.{every_batch, no_batch}
use Rattle.reply_pool.proofs.workers.answer_batches.Goals as goal

pub returns-then-total-eq0 : goal.returns-then-total-eq0
returns-then-total-eq0 g c = no_batch (sourced_by g.D.Contents.source c.args.served) c.args.jobs.now c.args.size c.new.result.items
    c.new.ensures.items
    (sym c.count_batches-total.ensures ∙ c.if-total-eq0.true)

pub returns : goal.returns
returns g c = every_batch (sourced_by g.D.Contents.source c.args.served) c.args.jobs.now c.args.size c.in_ok-board.board
    c.draw_all-pieces.result.0
    c.draw_all-pieces.result.1 c.close.result
    (c.in_ok-board.ensures.board.0 ∙ c.count_batches-total.ensures) c.draw_all-pieces.ensures.pieces c.draw_all-pieces.ensures.light
    (record { positions = c.close.ensures.positions; seen = c.close.ensures.seen })

pub draw_all-pieces-requires-clause-lent : goal.draw_all-pieces-requires-clause-lent
draw_all-pieces-requires-clause-lent g c κs within = tables_are_shared (copied 1 g.row.A) g.A.Allocator c.type_bounds.sync-A
