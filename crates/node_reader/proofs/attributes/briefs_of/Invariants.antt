use Rattle.std.proofs.Common.{◌≡◌, take}
use Rattle.node_reader.specs.Held.{briefs_of}
use Rattle.node_reader.proofs.attributes.briefs_of.Given as goal

-- the nodes so far are there in brief
abbrev pub invariant-loop-node : goal.invariant-loop-node
invariant-loop-node g l = l.briefs.items ≡ briefs_of l.rows (take l.node-index l.nodes)
