use Rattle.std.proofs.Common.{◌≡◌, ◌+◌, ◌%◌, ◌^◌, length}
use Rattle.romfs_format.specs.Fields.{word_sum}
use Rattle.romfs_format.proofs.read.word_sum.Given as goal

-- the sum so far, with that of the rest, is that of all bytes
abbrev pub invariant-loop-rest : goal.invariant-loop-rest
invariant-loop-rest l = (l.sum + word_sum l.rest) % 2 ^ 32 ≡ word_sum l.bytes % 2 ^ 32

-- how many bytes are left
abbrev pub decreases-loop-rest : goal.decreases-loop-rest
decreases-loop-rest l = length l.rest
