use Rattle.node_table.proofs.PlacesByKey.{Collecting}
use Rattle.node_table.proofs.firsts.places_by_key.Given as goal

-- the keys so far are put with their places, or occur once
abbrev pub invariant-loop-at : goal.invariant-loop-at
invariant-loop-at g l = Collecting l.keys l.by_key.items l.at
