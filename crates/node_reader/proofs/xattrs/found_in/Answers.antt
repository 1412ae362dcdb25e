use Rattle.std.proofs.Common.{◌∙◌, sym, ap, map}
use Rattle.std.proofs.lemmas.List.{map_more, take_all}
use Rattle.std.specs.List.{list_any}
use Rattle.node_reader.specs.declared.node.Node.{Node}
use Rattle.node_reader.specs.Xattrs.{has_acl, has_some, list_of_node, row_number}
use Rattle.node_reader.proofs.NodeLists.{any_more}
use Rattle.node_reader.proofs.xattrs.found_in.Goals as goal

pub loop-node-preserved : goal.loop-node-preserved
loop-node-preserved g c =
    let rows = c.args.rows.now in
    let lists = c.args.layers.now in
    let nodes = c.args.nodes.now in
    let i = c.loop-node.node-index in
    let now = c.loop-node.invariant in
    record {
      positions = rw (c.in_ok-push.ensures.items, now.positions, c.row_number-position.ensures)
          (sym (map_more (row_number rows) nodes i _ c.loop-node-test.true));
      some = any_more rows lists has_some nodes i _ _ _ _ c.loop-node-test.true c.row_number-position.ensures now.some
          c.or_some-some.ensures;
      acls = any_more rows lists has_acl nodes i _ _ _ _ c.loop-node-test.true c.row_number-position.ensures now.acls
          c.or_acl-acls.ensures;
    }

pub returns-clause-positions : goal.returns-clause-positions
returns-clause-positions g c = c.loop-node.invariant.positions
    ∙ ap (map (row_number c.args.rows.now)) (take_all c.loop-node.node-index c.args.nodes.now c.loop-node-test.false)

pub returns-clause-some : goal.returns-clause-some
returns-clause-some g c = c.loop-node.invariant.some
    ∙ ap (list_any (λ (node : Node). has_some (list_of_node c.args.rows.now c.args.layers.now node)))
    (take_all c.loop-node.node-index c.args.nodes.now c.loop-node-test.false)

pub returns-clause-acls : goal.returns-clause-acls
returns-clause-acls g c = c.loop-node.invariant.acls
    ∙ ap (list_any (λ (node : Node). has_acl (list_of_node c.args.rows.now c.args.layers.now node)))
    (take_all c.loop-node.node-index c.args.nodes.now c.loop-node-test.false)
