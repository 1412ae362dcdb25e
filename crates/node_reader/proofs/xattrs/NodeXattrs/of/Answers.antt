use Rattle.std.proofs.Common.{refl}
use Rattle.node_reader.proofs.NodeLists.{nodes_bare, nodes_held}
use Rattle.node_reader.proofs.xattrs.NodeXattrs.of.Goals as goal

pub returns-then-not-may_have_some-clause-are : goal.returns-then-not-may_have_some-clause-are
returns-then-not-may_have_some-clause-are g c =
    nodes_bare c.args.rows.now c.args.layers.items c.args.nodes.now _ refl
    (rw c.deref.ensures.value at (c.if-not-may_have_some.ensures refl)) c.new.ensures.items refl refl

pub returns-clause-are : goal.returns-clause-are
returns-clause-are g c =
    nodes_held c.args.rows.now c.args.layers.items c.args.nodes.now _ refl c.in_ok-found.ensures.positions
    (rw c.deref-2.ensures.value at c.in_ok-found.ensures.some) (rw c.deref-2.ensures.value at c.in_ok-found.ensures.acls)
