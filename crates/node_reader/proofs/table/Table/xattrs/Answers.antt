use Rattle.std.proofs.Common.{refl}
use Rattle.node_reader.proofs.NodeLists.{told, xattrs_are, xattrs_none}
use Rattle.node_reader.proofs.table.Table.xattrs.Goals as goal

pub returns-in-Some-clause-value : goal.returns-in-Some-clause-value
returns-in-Some-clause-value g c = told _ _ _
    (rw (← c.self.view_is) (xattrs_are _ _ _ _ c.self.invariant.table _ refl c.self.invariant.xattrs_are c.args.number _
    (rw c.deref.ensures.value at c.in-Some.ensures))) c.of_node.ensures.value

pub returns-in-None-clause-value : goal.returns-in-None-clause-value
returns-in-None-clause-value g c = rw (← c.self.view_is)
    (xattrs_none _ _ _ _ c.self.invariant.table _ refl c.self.invariant.xattrs_are c.args.number
    (rw c.deref.ensures.value at c.in-None.ensures))
