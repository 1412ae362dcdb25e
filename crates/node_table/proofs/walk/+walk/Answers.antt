use Rattle.std.proofs.Common.{rules, ap, ◌≡◌, ◌-◌, ◌<◌, ◌≤◌, length, arith, refl}
use Rattle.node_table.proofs.Walking.{child_walked, walk_begun, levels, walk_ended, falls}
use Rattle.node_table.proofs.walk.+walk.Goals as goal

pub loop-child-init : goal.loop-child-init
loop-child-init g t c = walk_begun _ _ _ _ _ c.requires.above c.requires.level c.in_ok-push.ensures.items
    c.in_ok-push-2.ensures.items c.in_ok-push-3.ensures.items

pub loop-child-preserved : goal.loop-child-preserved
loop-child-preserved g t c =
    let l : c.loop-child.child-index < length c.children-child-items.result.now = omega arith in
    let at : c.len-at.result ≡ length c.args.out.now.visits.items = omega (arith, c.len-at.ensures, c.args.out.now.visits.ok.0) in
    child_walked c.args.branch.now c.args.place c.children-child-items.result.now _ _ _ c.loop-child.child-index _ c.child-item.result
    c.children-child-items.ensures.below c.children-child-items.ensures.forest l c.child-item.is at c.loop-child.invariant
    c.in_ok-walk.ensures

pub walk-requires : goal.walk-requires
walk-requires g t c κs within =
    let l : c.loop-child.child-index < length c.children-child-items.result.now = omega arith in
    let f = falls c.children-child-items.result.now c.args.branch.now.below c.loop-child.child-index c.child-item.result
    c.children-child-items.ensures.below l c.child-item.is in
    let at : c.len-at.result ≡ length c.args.out.now.visits.items = omega (arith, c.len-at.ensures, c.args.out.now.visits.ok.0) in
    let level = levels _ _ _ _ _ _ c.loop-child.invariant in
    let above : c.len-at.result ≤ length c.loop-child.out.visits.items = omega (arith, at, level.1) in
    search (rules, f, above, level.0)

pub index_mut-requires : goal.index_mut-requires
index_mut-requires g t c =
    let at : c.len-at.result ≡ length c.args.out.now.visits.items = omega (arith, c.len-at.ensures, c.args.out.now.visits.ok.0) in
    let level = levels _ _ _ _ _ _ c.loop-child.invariant in
    omega (arith, at, level, c.loop-child.out.sizes.ok.0)

pub overflow_sub-len : goal.overflow_sub-len
overflow_sub-len g t c =
    let at : c.len-at.result ≡ length c.args.out.now.visits.items = omega (arith, c.len-at.ensures, c.args.out.now.visits.ok.0) in
    let level = levels _ _ _ _ _ _ c.loop-child.invariant in
    omega (arith, at, level, c.len.ensures, c.loop-child.out.visits.ok.0)

pub returns : goal.returns
returns g t c =
    let at : c.len-at.result ≡ length c.args.out.now.visits.items = omega (arith, c.len-at.ensures, c.args.out.now.visits.ok.0) in
    let now : c.len.result ≡ length c.loop-child.out.visits.items = omega (arith, c.len.ensures, c.loop-child.out.visits.ok.0) in
    let size = ap (λ n. n - c.len-at.result) now in
    walk_ended _ _ _ _ _ _ c.loop-child.child-index _ _ c.children-child-items.ensures.below (omega arith) at size refl
    c.loop-child.invariant
