use Rattle.std.proofs.Common.{◌∙◌, sym, ap}
use Rattle.std.proofs.lemmas.List.{map_more, take_all}
use Rattle.node_reader.specs.declared.node.Node.{Node}
use Rattle.node_reader.specs.Held.{brief_by, briefs_of, row_held}
use Rattle.node_reader.proofs.attributes.briefs_of.Goals as goal

pub loop-node-preserved : goal.loop-node-preserved
loop-node-preserved g c = rw (c.in_ok-push.ensures.items, c.loop-node.invariant, c.brief_by.ensures, c.row_of.ensures)
    (sym (map_more (λ (node : Node). brief_by (row_held c.args.rows.now node) node) c.args.nodes.now c.loop-node.node-index _
    c.loop-node-test.true))

pub returns : goal.returns
returns g c = c.loop-node.invariant
    ∙ ap (briefs_of c.args.rows.now) (take_all c.loop-node.node-index c.args.nodes.now c.loop-node-test.false)
