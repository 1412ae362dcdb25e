use Rattle.std.proofs.Common.{◌≡◌, ◌<◌, ℕ, get_or}
use Rattle.romfs_held.proofs.read.starts_with.Given as goal

-- the bytes so far are those at the start
abbrev pub invariant-loop-at : goal.invariant-loop-at
invariant-loop-at l = (i : ℕ) → i < l.at → get_or l.image i 0 ≡ get_or l.bytes i 0
