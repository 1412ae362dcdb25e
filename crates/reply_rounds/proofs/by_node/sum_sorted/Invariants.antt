use Rattle.std.proofs.Common.{◌<◌, ◌≤◌, ℕ, length, take, get_or}
use Rattle.reply_model.proofs.Sums.{nothing}
use Rattle.reply_rounds.proofs.Summing.{AreSummed}
use Rattle.reply_rounds.proofs.by_node.sum_sorted.Given as goal

-- the moves so far are summed, and no node to come is below the last one
abbrev pub invariant-loop-m : goal.invariant-loop-m
invariant-loop-m g l = record {
  summed : AreSummed (take l.m-index l.moves) l.sums.items l.sum;
  above : (k : ℕ) → l.m-index ≤ k → k < length l.moves → l.sum.node ≤ (get_or l.moves k nothing).node;
}
