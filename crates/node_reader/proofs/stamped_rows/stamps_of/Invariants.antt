use Rattle.std.proofs.Common.{◌≡◌, map, take}
use Rattle.node_reader.specs.Held.{row_held, stamp_by}
use Rattle.node_reader.proofs.stamped_rows.stamps_of.Given as goal

-- the nodes so far have their stamps
abbrev pub invariant-loop-node : goal.invariant-loop-node
invariant-loop-node g l = l.stamps.items ≡ map (λ node. stamp_by (row_held l.rows node) l.owner) (take l.node-index l.nodes)
