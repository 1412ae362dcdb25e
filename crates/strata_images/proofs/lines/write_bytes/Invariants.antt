use Rattle.std.proofs.Common.{ℕ, List, length}
use Rattle.strata_images.proofs.Told.{IsUnderWay}
use Rattle.strata_images.proofs.lines.write_bytes.Given as goal

-- some of the bytes are taken, and the rest is to come
abbrev pub invariant-loop-rest : goal.invariant-loop-rest
invariant-loop-rest g l =
    (done : List ℕ) × IsUnderWay l.initial.rest l.rest done (g.W.Write.contents l.initial.writer) (g.W.Write.contents l.writer)

-- each write leaves fewer bytes to come
abbrev pub decreases-loop-rest : goal.decreases-loop-rest
decreases-loop-rest g l = length l.rest
