use Rattle.node_reader.proofs.Nodes.{node_is}
use Rattle.node_reader.proofs.table.Table.node.Goals as goal

pub returns : goal.returns
returns g c = rw (← c.self.view_is) (node_is _ _ _ _ c.self.invariant.table c.args.number _
    (rw c.deref.ensures.value at c.node_at.ensures))
