use Rattle.std.proofs.Common.{◌*◌, ◌-◌, ◌^◌, ◌≤◌}
use Rattle.serve_loop.specs.declared.limits.TheConstants.{MAX_ROUND_MESSAGES}
use Rattle.reply_rounds.proofs.load.worth_workers.Given as goal

-- at most 256 messages so far, a bounded time for each, and replies within 2 MiB
abbrev pub invariant-loop-messages : goal.invariant-loop-messages
invariant-loop-messages g l = record {
  few : l.messages ≤ MAX_ROUND_MESSAGES;
  time : l.time ≤ l.messages * 2 ^ 33;
  room : l.room ≤ 2097152;
}

-- each turn takes one message more of 256
abbrev pub decreases-loop-messages : goal.decreases-loop-messages
decreases-loop-messages g l = MAX_ROUND_MESSAGES - l.messages
