use Rattle.std.proofs.Common.{ℕ, List, length}
use Rattle.devices.proofs.Pieces.{IsUnderWay}
use Rattle.devices.proofs.push.push_all.Given as goal

-- some of the bytes are pushed, and the rest is to come
abbrev pub invariant-loop-rest : goal.invariant-loop-rest
invariant-loop-rest g l =
    (done : List ℕ)
    × IsUnderWay l.initial.rest l.rest done (g.K.Sink.state l.initial.sink) (g.K.Sink.state l.sink)

-- each push leaves fewer bytes to come
abbrev pub decreases-loop-rest : goal.decreases-loop-rest
decreases-loop-rest g l = length l.rest
