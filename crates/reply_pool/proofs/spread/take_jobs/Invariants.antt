use Rattle.std.proofs.Common.{◌≡◌, ◌≤◌, ◌-◌, length}
use Rattle.reply_rounds.specs.Spread.{AreFirstJobs}
use Rattle.reply_pool.proofs.spread.take_jobs.Given as goal

-- a job for each of the first messages so far, which are no more than asked for
abbrev pub invariant-loop-round : goal.invariant-loop-round
invariant-loop-round g l = record {
  first : AreFirstJobs l.fn.session l.stream l.round l.jobs.items;
  many : length l.jobs.items ≡ l.round.messages;
  few : l.round.messages ≤ l.messages;
}

-- each turn takes one message more of those asked for
abbrev pub decreases-loop-round : goal.decreases-loop-round
decreases-loop-round g l = l.messages - l.round.messages
