use Rattle.std.proofs.Common.{◌≡◌, map, take}
use Rattle.std.specs.List.{list_any}
use Rattle.node_reader.specs.Xattrs.{has_acl, has_some, list_of_node, row_number}
use Rattle.node_reader.proofs.xattrs.found_in.Given as goal

-- the positions of the rows of the nodes so far are there, and what lists these lead to is known
abbrev pub invariant-loop-node : goal.invariant-loop-node
invariant-loop-node g l = record {
  positions : l.positions.items ≡ map (row_number l.rows) (take l.node-index l.nodes);
  some : l.some ≡ list_any (λ node. has_some (list_of_node l.rows l.layers node)) (take l.node-index l.nodes);
  acls : l.acls ≡ list_any (λ node. has_acl (list_of_node l.rows l.layers node)) (take l.node-index l.nodes);
}
