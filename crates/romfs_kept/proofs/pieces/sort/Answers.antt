use Rattle.std.proofs.Common.{rules}
use Rattle.std.proofs.lemmas.List.Sorted.{IsNonDecreasingBy-from_sort_by_key}
use Rattle.romfs_kept.specs.declared.pieces.Piece.{Piece}
use Rattle.romfs_kept.proofs.Collecting.{fewer_moved}
use Rattle.romfs_kept.proofs.pieces.sort.Goals as goal

pub returns : goal.returns
returns g c = record {
  fewer = fewer_moved _ _ c.sort_unstable_by_key.ensures.permutation;
  rising = IsNonDecreasingBy-from_sort_by_key (λ (x : Piece). x.block) _ c.sort_unstable_by_key.ensures.sorted
      (λ a r q k. search rules);
}
