use Rattle.node_table.specs.Firsts.{AreThemselves}
use Rattle.node_table.proofs.firsts.themselves.Given as goal

-- each of the places so far is at itself
abbrev pub invariant-loop-at : goal.invariant-loop-at
invariant-loop-at g l = AreThemselves l.at l.places.items
