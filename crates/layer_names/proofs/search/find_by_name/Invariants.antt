use Rattle.std.proofs.Common.{◌-◌, map}
use Rattle.layer_names.specs.Keyed.{Narrows}
use Rattle.layer_names.proofs.search.find_by_name.Given as goal

-- the name is at none of the places that were left out
abbrev pub invariant-loop-low : goal.invariant-loop-low
invariant-loop-low g l = Narrows (map g.T.HasName.name l.rows) l.name l.low l.high

-- each turn leaves fewer places between low and high
abbrev pub decreases-loop-low : goal.decreases-loop-low
decreases-loop-low g l = l.high - l.low
