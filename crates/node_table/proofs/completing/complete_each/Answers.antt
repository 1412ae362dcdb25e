use Rattle.std.proofs.Common.{refl, ◌<◌, length, arith, get_or, length-set}
use Rattle.std.proofs.lemmas.List.{get_or_default}
use Rattle.node_table.specs.Building.{completed}
use Rattle.node_table.proofs.Completed.{change_begun, element_changed, change_ended}
use Rattle.node_table.proofs.completing.complete_each.Goals as goal

pub loop-node-init : goal.loop-node-init
loop-node-init c = change_begun completed _

pub loop-node-preserved : goal.loop-node-preserved
loop-node-preserved c =
    let lt : c.loop-node.node-index < length c.loop-node.nodes = omega arith in
    element_changed completed c.args.nodes.now c.loop-node.nodes _ c.loop-node.node-index
    (get_or c.loop-node.nodes c.loop-node.node-index _) c.complete.new.node c.loop-node.invariant lt
    (get_or_default c.loop-node.nodes c.loop-node.node-index _ _ lt) c.complete.ensures refl (simp length-set refl)

pub returns : goal.returns
returns c = change_ended completed _ _ _ (omega arith) c.loop-node.invariant
