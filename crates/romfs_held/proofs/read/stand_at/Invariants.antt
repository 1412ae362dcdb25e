use Rattle.std.proofs.Common.{◌≡◌, ◌<◌, ◌+◌, ℕ, get_or}
use Rattle.romfs_held.proofs.read.stand_at.Given as goal

-- the bytes so far are those at the place
abbrev pub invariant-loop-number : goal.invariant-loop-number
invariant-loop-number l = (i : ℕ) → i < l.number → get_or l.image (l.at + i) 0 ≡ get_or l.bytes i 0
