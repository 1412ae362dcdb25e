use Rattle.std.proofs.Common.{arith, ◌<◌, length}
use Rattle.romfs_sets.proofs.SeenKeys.{told_more, all_told}
use Rattle.romfs_sets.proofs.once.seen_once.Goals as goal

pub loop-key-preserved : goal.loop-key-preserved
loop-key-preserved g c =
    let lt : c.loop-key.key-index < length c.args.keys.now = omega arith in
    told_more c.args.keys.now c.loop-key.once.items c.push.new.self.items c.loop-key.key-index _ c.in_ok-push.ensures.items
    (λ t. c.in_ok-crowded.ensures.told.once c.loop-key.key-index lt (c.is_alone.ensures t))
    c.loop-key.invariant

pub returns : goal.returns
returns g c = all_told _ _ _ (omega arith) c.loop-key.invariant
