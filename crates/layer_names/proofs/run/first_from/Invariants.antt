use Rattle.layer_names.proofs.Halves.{Closes}
use Rattle.layer_names.proofs.run.first_from.Given as goal

-- the place is among these
abbrev pub invariant-loop-size : goal.invariant-loop-size
invariant-loop-size l = Closes l.keys l.key l.base l.size

-- each turn leaves fewer places
abbrev pub decreases-loop-size : goal.decreases-loop-size
decreases-loop-size l = l.size
