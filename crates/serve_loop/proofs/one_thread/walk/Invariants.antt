use Rattle.std.proofs.Common.{◌≡◌, ◌-◌, ◌++◌, ℕ, List}
use Rattle.serve_loop.specs.declared.limits.TheConstants.{MAX_ROUND_MESSAGES}
use Rattle.serve_loop.proofs.Walking.{IsSoFar}
use Rattle.serve_loop.proofs.one_thread.walk.Given as goal

-- some of the first messages are answered
abbrev pub invariant-loop-round : goal.invariant-loop-round
invariant-loop-round g l =
    (put : List ℕ) × (l.replies.items ≡ l.fn.replies.items ++ put)
    × IsSoFar (g.T.AnswersOne.answering l.answers) l.fn.session l.stream l.round put (record { old = l.initial.balances; new = l.balances })

-- how many messages the round may have yet
abbrev pub decreases-loop-round : goal.decreases-loop-round
decreases-loop-round g l = MAX_ROUND_MESSAGES - l.round.messages
