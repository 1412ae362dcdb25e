use Rattle.node_table.proofs.PlacesByKey.{Filling}
use Rattle.node_table.proofs.firsts.firsts_of.Given as goal

-- the places so far, in the order of their keys, have the first place of their key
abbrev pub invariant-loop-i : goal.invariant-loop-i
invariant-loop-i g l = Filling l.keys l.keyed-items l.firsts.items l.group l.i
