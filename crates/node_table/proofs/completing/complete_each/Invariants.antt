use Rattle.node_table.specs.Building.{completed}
use Rattle.node_table.proofs.Completed.{Changing}
use Rattle.node_table.proofs.completing.complete_each.Given as goal

-- the nodes so far are completed, and the others as they were
abbrev pub invariant-loop-node : goal.invariant-loop-node
invariant-loop-node l = Changing completed l.initial.nodes l.nodes l.node-index
