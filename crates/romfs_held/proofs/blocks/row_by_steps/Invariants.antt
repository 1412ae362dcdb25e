use Rattle.std.proofs.Common.{◌≡◌, ◌≤◌, ◌<◌, ◌+◌, ◌-◌, ℕ, length, get_or}
use Rattle.romfs_held.proofs.blocks.row_by_steps.Given as goal

-- the blocks so far rise by one
abbrev pub invariant-loop-count : goal.invariant-loop-count
invariant-loop-count l = record {
  some : 0 < l.count;
  few : l.count ≤ 18;
  within : l.at + l.count ≤ length l.blocks;
  rise : (i : ℕ) → i < l.count → get_or l.blocks (l.at + i) 0 ≡ l.block + i;
}

-- the blocks that may follow
abbrev pub decreases-loop-count : goal.decreases-loop-count
decreases-loop-count l = 18 - l.count
