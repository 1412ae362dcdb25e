use Rattle.std.proofs.Common.{◌∙◌, sym, ap, map}
use Rattle.std.proofs.lemmas.List.{map_more, take_all}
use Rattle.node_reader.specs.declared.node.Node.{Node}
use Rattle.node_reader.specs.Held.{row_held, stamp_by}
use Rattle.node_reader.proofs.stamped_rows.stamps_of.Goals as goal

pub loop-node-preserved : goal.loop-node-preserved
loop-node-preserved g c = rw (c.in_ok-push.ensures.items, c.loop-node.invariant, c.placed_stamp.ensures)
    (sym (map_more (λ (node : Node). stamp_by (row_held c.args.rows.now node) c.args.owner) c.args.nodes.now c.loop-node.node-index _
    c.loop-node-test.true))

pub returns : goal.returns
returns g c = c.loop-node.invariant
    ∙ ap (map (λ (node : Node). stamp_by (row_held c.args.rows.now node) c.args.owner))
    (take_all c.loop-node.node-index c.args.nodes.now c.loop-node-test.false)
