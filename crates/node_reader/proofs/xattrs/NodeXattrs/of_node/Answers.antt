use Rattle.std.proofs.Common.{sym, ap}
use Rattle.node_reader.proofs.NodeLists.{held_behind, none_behind, told}
use Rattle.node_reader.proofs.xattrs.NodeXattrs.of_node.Goals as goal

pub returns-in-Some-clause-value : goal.returns-in-Some-clause-value
returns-in-Some-clause-value g c = rw (← c.self.view_is) (told _ _ _
    (held_behind c.self.inside.layers.items c.self.inside.positions.items c.args.number c.args.node.now c.in-Some.position.now
    (rw c.deref.ensures.value at c.in-Some.ensures))
    (rw c.deref-in-Some.ensures.value at c.list_at.ensures.value))

pub returns-in-None-clause-value : goal.returns-in-None-clause-value
returns-in-None-clause-value g c = rw (← c.self.view_is)
    (none_behind c.self.inside.layers.items c.self.inside.positions.items c.args.number c.args.node.now
    (rw c.deref.ensures.value at c.in-None.ensures))
