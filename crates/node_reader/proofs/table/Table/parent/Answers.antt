use Rattle.std.proofs.Common.{◌∙◌}
use Rattle.node_reader.proofs.Nodes.{parent_is, parent_none}
use Rattle.node_reader.proofs.table.Table.parent.Goals as goal

pub returns-in_err-directory : goal.returns-in_err-directory
returns-in_err-directory g c = c.from_residual.ensures
    ∙ rw (← c.self.view_is) (parent_none _ _ _ _ c.self.invariant.table c.args.number
    (rw c.deref.ensures.value at c.in_err-directory.ensures))

pub returns : goal.returns
returns g c = rw (← c.self.view_is) (parent_is _ _ _ _ c.self.invariant.table c.args.number _
    (rw c.deref.ensures.value at c.in_ok-directory.ensures))
