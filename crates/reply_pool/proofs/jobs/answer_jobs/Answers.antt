use Rattle.std.proofs.Common.{◌*◌, ◌^◌, ◌≤◌, unsigned_abs, List, [], ◌∷◌, length, arith, ap, refl, subst, sym}
use Rattle.std.proofs.lemmas.List.Elements.{All-head, All-nil, All-tail}
use Rattle.fuse_answer.specs.Puts.{AreSmall, sourced_by}
use Rattle.reply_model.specs.declared.moves.Move.{Move}
use Rattle.reply_model.specs.Balances.{weight}
use Rattle.reply_rounds.specs.Jobs.{moved_by}
use Rattle.reply_rounds.specs.Sums.{AreSums}
use Rattle.reply_rounds.proofs.Told.{replies_all, reply_on, told_all, told_on}
use Rattle.reply_pool.proofs.jobs.answer_jobs.Goals as goal

-- small moves weigh 64 bits each at most
weight_small : (xs : List Move) → AreSmall xs → weight xs ≤ 2 ^ 64 * length xs
weight_small [] small = omega arith
weight_small (x ∷ xs) small =
    let one = All-head (λ (m : Move). unsigned_abs m.amount ≤ 2 ^ 64) x xs small in
    let rest = weight_small xs (All-tail (λ (m : Move). unsigned_abs m.amount ≤ 2 ^ 64) x xs small) in
    omega arith

pub loop-job-init : goal.loop-job-init
loop-job-init g c = let none = c.new-moved.ensures.items in record {
  replies = c.new-bytes.ensures;
  moves = none;
  few = (let e = ap length none in omega arith);
  small = subst AreSmall (sym none) (All-nil (λ (m : Move). unsigned_abs m.amount ≤ 2 ^ 64));
}

pub loop-job-preserved : goal.loop-job-preserved
loop-job-preserved g c =
    let by = sourced_by g.D.Contents.source c.args.served in
    let stack = c.args.served.table.now in
    let jobs = c.args.jobs.now in
    let i = c.loop-job.job-index in
    let job = c.job-item.result in
    let there = c.loop-job-test.true in
    let inv = c.loop-job.invariant in
    let put = c.in_ok-answer_job.ensures in
    record {
      replies = reply_on by jobs i job c.loop-job.bytes.items put.reply.0 c.answer_job.new.bytes.items there c.job-item.is inv.replies
          put.reply.2 put.reply.1;
      moves = told_on (moved_by stack) jobs i job c.loop-job.moved.items (moved_by stack job) c.answer_job.new.moved.items there
          c.job-item.is inv.moves put.moves refl;
      few = (let more = put.few in let few = inv.few in omega arith);
      small = put.small inv.small;
    }

pub sums-requires : goal.sums-requires
sums-requires g c =
    let w = weight_small c.loop-job.moved.items c.loop-job.invariant.small in
    let n = c.loop-job.invariant.few in
    omega arith

pub returns-clause-light : goal.returns-clause-light
returns-clause-light g c =
    let w = weight_small c.loop-job.moved.items c.loop-job.invariant.small in
    let n = c.loop-job.invariant.few in
    let l = c.in_ok-moves.ensures.light in
    let few = c.requires in
    omega arith

pub returns-clause-rounded : goal.returns-clause-rounded
returns-clause-rounded g c =
    let by = sourced_by g.D.Contents.source c.args.served in
    let stack = c.args.served.table.now in
    let jobs = c.args.jobs.now in
    let i = c.loop-job.job-index in
    let past : length jobs ≤ i = c.loop-job-test.false in
    let inv = c.loop-job.invariant in
    record {
      replies = replies_all by jobs i c.loop-job.bytes.items past inv.replies;
      sums = subst (λ (ms : List Move). AreSums ms c.in_ok-moves.moves.items)
          (told_all (moved_by stack) jobs i c.loop-job.moved.items past inv.moves) c.in_ok-moves.ensures.sums;
    }
