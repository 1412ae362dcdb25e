use Rattle.std.proofs.Common.{rules, ◌<◌, length, arith}
use Rattle.node_table.proofs.Walking.{falls}
use Rattle.node_table.proofs.walk.+count_branches.Goals as goal

pub count_branches-below-requires : goal.count_branches-below-requires
count_branches-below-requires g t c κs within =
    let l : c.loop-child.child-index < length c.children-child-items.result.now = omega arith in
    let f = falls c.children-child-items.result.now c.args.branch.now.below c.loop-child.child-index c.child-item.result
    c.children-child-items.ensures.below l c.child-item.is in
    search (rules, f)
