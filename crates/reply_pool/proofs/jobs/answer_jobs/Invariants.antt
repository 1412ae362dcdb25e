use Rattle.std.proofs.Common.{◌≡◌, ◌*◌, ◌^◌, ◌≤◌, length, take}
use Rattle.std.specs.List.{flat_map}
use Rattle.fuse_answer.specs.Puts.{AreSmall, sourced_by}
use Rattle.reply_rounds.specs.Jobs.{AreReplied, moved_by}
use Rattle.reply_pool.proofs.jobs.answer_jobs.Given as goal

-- the replies and moves of the jobs so far, and that these are few and small
abbrev pub invariant-loop-job : goal.invariant-loop-job
invariant-loop-job g l = record {
  replies : AreReplied (sourced_by g.D.Contents.source l.served) (take l.job-index l.jobs) l.bytes.items;
  moves : l.moved.items ≡ flat_map (moved_by l.served.table.now) (take l.job-index l.jobs);
  few : length l.moved.items ≤ 2 ^ 32 * l.job-index;
  small : AreSmall l.moved.items;
}
