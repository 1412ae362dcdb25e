use Rattle.std.proofs.Common.{ℕ, length}
use Rattle.std.proofs.lemmas.Result.{IfOk-weaker}
use Rattle.fuse_answer.specs.Puts.{sourced_by}
use Rattle.reply_rounds.specs.Batches.{batches}
use Rattle.reply_rounds.proofs.Batched.{batches_few}
use Rattle.reply_rounds.proofs.Hands.{rounds}
use Rattle.reply_pool.proofs.workers.round.Goals as goal

pub in_order-requires-clause-once : goal.in_order-requires-clause-once
in_order-requires-clause-once g c =
    let jobs = c.args.jobs.now in
    let size : ℕ = c.batch.result in
    record {
      count = batches size (length jobs);
      few = batches_few (length jobs) size c.batch.ensures.some c.requires;
      once = c.in_ok-pieces.ensures.once;
    }

pub returns : goal.returns
returns g c =
    let a = c.in_ok-pieces.ensures in
    IfOk-weaker c.in_order.result _ _
    (λ rounded joined. rounds (sourced_by g.D.Contents.source c.args.served) c.args.jobs.now c.batch.result c.in_ok-pieces.pieces.items
    rounded c.batch.ensures.some
    a.answered a.once joined)
    c.in_order.ensures
