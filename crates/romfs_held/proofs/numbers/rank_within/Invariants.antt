use Rattle.std.proofs.Common.{◌≤◌, ◌<◌, ◌-◌, ℕ, length, get_or}
use Rattle.romfs_held.proofs.numbers.rank_within.Given as goal

-- the blocks below low are below the block, and those from high on are not
abbrev pub invariant-loop-low : goal.invariant-loop-low
invariant-loop-low l = record {
  order : l.low ≤ l.high;
  within : l.high ≤ length l.all;
  below : (i : ℕ) → i < l.low → get_or l.all i 0 < l.block;
  above : (i : ℕ) → l.high ≤ i → i < length l.all → l.block ≤ get_or l.all i 0;
}

-- the blocks between
abbrev pub decreases-loop-low : goal.decreases-loop-low
decreases-loop-low l = l.high - l.low
