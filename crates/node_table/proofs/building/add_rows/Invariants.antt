use Rattle.std.proofs.Common.{drop}
use Rattle.node_table.specs.Numbering.{number_among}
use Rattle.node_table.specs.Building.{AreFollowing}
use Rattle.node_table.proofs.Built.{Rowing}
use Rattle.node_table.proofs.building.add_rows.Given as goal

-- the children so far have rows, and the others follow from `at` on
abbrev pub invariant-loop-child : goal.invariant-loop-child
invariant-loop-child g l = Rowing (number_among l.walk.visits.items) l.children l.fn.rows.items l.rows.items l.directories l.child-index
    × AreFollowing (number_among l.walk.visits.items) l.numbered.numbers l.walk.sizes.items l.at (drop l.child-index l.children)
