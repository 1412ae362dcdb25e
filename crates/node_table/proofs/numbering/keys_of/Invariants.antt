use Rattle.std.proofs.Common.{take}
use Rattle.node_table.specs.Numbering.{AreKeys}
use Rattle.node_table.proofs.numbering.keys_of.Given as goal

-- the visits so far have keys
abbrev pub invariant-loop-visit : goal.invariant-loop-visit
invariant-loop-visit g l = AreKeys (take l.visit-index l.visits) l.keys.items
