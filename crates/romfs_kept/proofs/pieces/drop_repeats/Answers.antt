use Rattle.std.proofs.Common.{rules, ◌==◌}
use Rattle.std.proofs.lemmas.Fn.{dedup_same}
use Rattle.romfs_kept.specs.declared.pieces.Piece.{Piece}
use Rattle.romfs_kept.proofs.Collecting.{fewer_both, fewer_deduped}
use Rattle.romfs_kept.proofs.pieces.drop_repeats.Goals as goal

pub returns : goal.returns
returns g c = fewer_both _ _ _ c.sort.ensures.fewer
    (fewer_deduped _ _ (dedup_same _ (λ (x y : Piece). x.block == y.block) _
    (λ x y b f' x' y' k. search rules) _ _ c.dedup_by_key.ensures.filtered))
