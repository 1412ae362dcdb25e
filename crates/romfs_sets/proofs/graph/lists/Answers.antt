use Rattle.std.proofs.Common.{◌≡◌, subst, ◌+◌, ◌-◌, ◌<◌, length, get_or, arith}
use Rattle.std.proofs.lemmas.List.{get_or_read}
use Rattle.romfs_sets.proofs.Siblings.{AreListed, listed_more}
use Rattle.romfs_sets.proofs.graph.lists.Goals as goal

pub loop-at-preserved : goal.loop-at-preserved
loop-at-preserved g c =
    let w = c.loop-at.invariant in
    let at = c.loop-at.at - 1 in
    let i : at < length c.args.next.now = omega arith in
    let e : c.loop-at.at ≡ at + 1 = omega arith in
    let b = c.requires.next.each at i in
    let r = get_or_read c.loop-at.first.items (get_or c.args.next.now at 0) c.index.result.now (let f = w.firsts in
    omega arith) c.index.ensures 0 in
    rw r (listed_more _ _ _ at i c.requires.next (subst (λ x. AreListed c.args.next.now c.loop-at.first.items c.loop-at.sibling.items x) e
    w))
