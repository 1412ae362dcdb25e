use Rattle.std.proofs.Common.{◌≡◌, take, false}
use Rattle.node_reader.specs.Held.{have_rows}
use Rattle.node_reader.proofs.stamped_rows.have_rows.Given as goal

-- the layers so far have no row
abbrev pub invariant-loop-of_layer : goal.invariant-loop-of_layer
invariant-loop-of_layer g l = have_rows (take l.of_layer-index l.rows) ≡ false
