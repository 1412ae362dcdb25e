use Rattle.std.proofs.Common.{◌≡◌, ◌≤◌, ℕ, ap, arith, length, subst, sym}
use Rattle.std.specs.Vec.{vec_items}
use Rattle.std.proofs.Math.Facts.{Fits-lt-pow}
use Rattle.serve_loop.specs.declared.limits.TheConstants.{MAX_ROUND_MESSAGES}
use Rattle.reply_rounds.specs.Batches.{batches}
use Rattle.reply_rounds.specs.Spread.{AreFirstJobs}
use Rattle.reply_rounds.proofs.Batched.{batches_few}
use Rattle.reply_pool.proofs.spread.spread_out.Goals as goal

pub returns : goal.returns
returns g c =
    let jobs = c.deref.result.now in
    let d = c.deref.ensures.value in
    let j = ap vec_items c.in_ok-jobs.jobs-is in
    let same : jobs ≡ c.in_ok-jobs.field-0.jobs.items = cc in
    let l = ap length same in
    let f = c.in_ok-jobs.ensures.few in
    let r = c.requires.few in
    let size : ℕ = c.batch_size-size.result in
    let few : length jobs ≤ MAX_ROUND_MESSAGES = omega arith in
    record {
      jobs = jobs;
      first = subst (AreFirstJobs c.args.session c.args.stream.now c.in_ok-jobs.field-0.round) (sym same) c.in_ok-jobs.ensures.jobs;
      bytes = λ k. Fits-lt-pow (c.type_inv.stream k);
      some = c.in_ok-jobs.ensures.some;
      size = c.batch_size-size.result;
      sized = c.batch_size-size.ensures.some;
      answered = c.in_ok-pieces.ensures;
      once = record {
        count = batches size (length jobs);
        few = batches_few (length jobs) size c.batch_size-size.ensures.some few;
        once = c.in_ok-pieces.ensures.once;
      };
    }
