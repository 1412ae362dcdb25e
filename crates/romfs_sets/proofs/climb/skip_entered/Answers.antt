use Rattle.std.proofs.Common.{◌<◌, length, arith}
use Rattle.std.proofs.lemmas.List.{get_or_read}
use Rattle.romfs_sets.proofs.Ascent.{skips_on}
use Rattle.romfs_sets.proofs.climb.skip_entered.Goals as goal

pub loop-at-preserved : goal.loop-at-preserved
loop-at-preserved g c =
    let i : c.loop-at.at < length c.args.graph.now.sibling.items = omega (arith, c.args.graph.now.sibling.ok.0) in
    rw (get_or_read c.args.graph.now.sibling.items c.loop-at.at _ i c.index-at.ensures 0)
    (skips_on _ _ _ _ i c.if-entered-at.true c.loop-at.invariant)
