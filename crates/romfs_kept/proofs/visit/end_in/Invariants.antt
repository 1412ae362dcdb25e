use Rattle.std.proofs.Common.{◌≢◌, ◌≤◌, ◌<◌, ℕ, get_or}
use Rattle.romfs_kept.proofs.visit.end_in.Given as goal

-- no byte after the header so far is zero
abbrev pub invariant-loop-i : goal.invariant-loop-i
invariant-loop-i l = (k : ℕ) → 16 ≤ k → k < l.i → get_or l.near k 0 ≢ 0
