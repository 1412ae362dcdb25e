use Rattle.std.proofs.Common.{arith}
use Rattle.romfs_kept.proofs.Joining.{step_again, step_more, joined_all}
use Rattle.romfs_kept.proofs.packing.pack_sorted.Goals as goal

pub loop-piece-preserved-then-not-is_above : goal.loop-piece-preserved-then-not-is_above
loop-piece-preserved-then-not-is_above g c =
    step_again _ c.requires _ _ c.deref.result.now _ _ c.loop-piece.invariant c.loop-piece-test.true c.deref.ensures.value
    (c.is_above.ensures.no c.if-not-is_above.true)

pub loop-piece-preserved : goal.loop-piece-preserved
loop-piece-preserved g c =
    step_more _ c.requires _ _ c.deref.result.now _ _ c.loop-piece.invariant c.loop-piece-test.true c.deref.ensures.value _ _ _
    (c.is_above.ensures.yes c.if-not-is_above.false) c.bytes_of.ensures.value c.bytes_of.ensures.whole c.in_ok-push.ensures.items
    c.in_ok-extend_from_slice.ensures.items

pub returns : goal.returns
returns g c = joined_all _ _ _ _ (omega arith) c.loop-piece.invariant
