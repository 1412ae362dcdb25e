use Rattle.std.proofs.Common.{◌≡◌, ◌+◌, ◌-◌, ◌*◌, ap, take, drop, arith}
use Rattle.romfs_kept.proofs.Collecting.{row_none, row_more}
use Rattle.romfs_kept.proofs.pieces.add_row.Goals as goal

pub loop-i-init : goal.loop-i-init
loop-i-init g c = row_none _ _ _

pub loop-i-preserved : goal.loop-i-preserved
loop-i-preserved g c =
    row_more _ _ _ _ _ _ _ _ c.loop-i.invariant c.piece_of-piece.ensures.block
    (ap (λ n. take n (drop (c.loop-i.i * 16) c.args.bytes.now)) (let e : c.loop-i.i * 16 + 16 - c.loop-i.i * 16 ≡ 16 = omega arith in e))
    c.piece_of-piece.ensures.bytes c.in_ok-add.ensures
