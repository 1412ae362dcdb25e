use Rattle.std.proofs.Common.{◌≤◌}
use Rattle.reply_rounds.proofs.ahead.hash_all.Given as goal

-- no more LOOKUPs than messages
abbrev pub invariant-loop-message : goal.invariant-loop-message
invariant-loop-message l = record { few : l.lookups ≤ l.message }
