use Rattle.std.proofs.Common.{◌≡◌, ◌∙◌, length, ap, arith}
use Rattle.std.specs.Prelude.{slice_index}
use Rattle.std.proofs.lemmas.List.{get_or_default}
use Rattle.stack_model.specs.Listing.{Stacked, stacked}
use Rattle.node_table.specs.Walks.{walk_of}
use Rattle.node_table.specs.Numbering.{number_among}
use Rattle.node_table.proofs.Made.{FirstBranches, IsMadeOf, nodes_begun, has_start, start_within, above_within, next_first, node_made, nodes_ended}
use Rattle.node_table.proofs.building.make.Given.{Over}
use Rattle.node_table.proofs.building.make.Goals.{In-loop-at}
use Rattle.node_table.proofs.building.make.Goals as goal

-- the stack whose listing the first branches agree with
abbrev stack : (g : Over) (c : In-loop-at g) → Stacked
stack g c = stacked c.args.images.now c.loop-at.invariant.1

-- the first branches of all places, as each turn finds them
abbrev branches : (g : Over) (c : In-loop-at g) → FirstBranches (stack g c)
branches g c = record {
  walk = walk_of c.args.walk.now;
  numbers = c.args.numbered.now.numbers;
  first = c.loop-at.invariant.0;
  starts = c.args.numbered.now.starts;
  paths = c.args.numbered.now.paths;
  agree = c.loop-at.invariant.2;
  stand = c.loop-at.invariant.3;
}

pub loop-at-init : goal.loop-at-init
loop-at-init g c = (
  c.requires.0,
  c.requires.1.0,
  c.requires.1.1,
  c.requires.2,
  nodes_begun _ _ _ c.in_ok-nodes.ensures.items c.in_ok-with_capacity.ensures.items c.in_ok-with_capacity-2.ensures.items,
)

pub returns : goal.returns
returns g c =
    let inv = c.loop-at.invariant in
    let e : c.loop-at.at ≡ length inv.0 = omega (arith, c.len-at-end.ensures, inv.3.level) in
    nodes_ended inv.2 e inv.4

pub index-above-requires : goal.index-above-requires
index-above-requires g c =
    let all = branches g (goal.at.index-above-requires g c).In-loop-at in
    let within = above_within all (has_start c.start-start.ensures (omega (arith, c.len-at-end.ensures))) in
    omega (arith, within.placed, c.args.walk.now.above.ok.0)

pub index-requires : goal.index-requires
index-requires g c =
    let all = branches g (goal.at.index-requires g c).In-loop-at in
    let within = start_within all (has_start c.start-start.ensures (omega (arith, c.len-at-end.ensures))) in
    omega (arith, within, c.args.walk.now.visits.ok.0)

pub number-requires : goal.number-requires
number-requires g c =
    let all = branches g (goal.at.number-requires g c).In-loop-at in
    let within = above_within all (has_start c.start-start.ensures (omega (arith, c.len-at-end.ensures))) in
    let above = c.index-above.ensures ∙ get_or_default c.args.walk.now.above.items _ c.index-above.result.now 0 within.placed in
    omega (arith, above, within.within)

pub paths-requires : goal.paths-requires
paths-requires g c =
    let all = branches g (goal.at.paths-requires g c).In-loop-at in
    let next = next_first all (has_start c.start-start.ensures (omega (arith, c.len-at-end.ensures))) _ c.index.ensures in
    next.within

pub add_node-requires-clause-header : goal.add_node-requires-clause-header
add_node-requires-clause-header g c =
    let all = branches g (goal.at.add_node-requires-clause-header g c).In-loop-at in
    let next = next_first all (has_start c.start-start.ensures (omega (arith, c.len-at-end.ensures))) _ c.index.ensures in
    next.agrees.header

pub add_node-requires-clause-children : goal.add_node-requires-clause-children
add_node-requires-clause-children g c =
    let all = branches g (goal.at.add_node-requires-clause-children g c).In-loop-at in
    let next = next_first all (has_start c.start-start.ensures (omega (arith, c.len-at-end.ensures))) _ c.index.ensures in
    next.children

pub loop-at-preserved : goal.loop-at-preserved
loop-at-preserved g c =
    let inv = c.loop-at.invariant in
    let all = branches g (goal.at.loop-at-preserved g c).In-loop-at in
    let next = next_first all (has_start c.start-start.ensures (omega (arith, c.len-at-end.ensures))) _ c.index.ensures in
    let numbers = c.args.numbered.now.numbers in
    let above = c.index-above.ensures ∙ get_or_default c.args.walk.now.above.items _ c.index-above.result.now 0 next.above.placed in
    let within = next.above.within in
    let parent = c.number.ensures ∙ ap (slice_index numbers) above in
    let made : IsMadeOf (stack g (goal.at.loop-at-preserved g c).In-loop-at) (number_among c.args.walk.now.visits.items) _ _ _
    c.in_ok-node.node =
    record { agrees = rw (parent, c.paths.ensures) next.agrees; level = inv.4.keys_level; adds = c.in_ok-node.ensures } in (
      inv.0,
      inv.1,
      inv.2,
      inv.3,
      node_made c.loop-at.at made next.placed inv.4 c.in_ok-push.ensures.items,
    )
