use Rattle.std.proofs.Common.{subst}
use Rattle.romfs_kept.specs.Pieces.{IsPacked}
use Rattle.romfs_kept.proofs.Joining.{packed_filled, filled_if_ok}
use Rattle.romfs_kept.proofs.packing.pack.Goals as goal

pub returns-clause-bytes : goal.returns-clause-bytes
returns-clause-bytes g c =
    filled_if_ok c.args.pieces.items c.args.size _ c.new.result c.new.ensures.bytes
    (packed_filled _ c.sort.new.pieces.items _ _ _ c.sort.ensures
    (subst (λ p. IsPacked p c.in_ok-packed.packed.blocks.items c.in_ok-packed.packed.bytes.items)
    c.deref.ensures.value c.in_ok-packed.ensures))
