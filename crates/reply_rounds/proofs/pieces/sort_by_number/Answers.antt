use Rattle.std.proofs.Common.{rules}
use Rattle.std.proofs.lemmas.List.Sorted.{IsNonDecreasingBy-from_sort_by_key}
use Rattle.reply_rounds.specs.declared.pieces.Piece.{Piece}
use Rattle.reply_rounds.proofs.pieces.sort_by_number.Goals as goal

pub returns : goal.returns
returns g c = record {
  same = c.sort_unstable_by_key.ensures.permutation;
  rising = IsNonDecreasingBy-from_sort_by_key (λ (p : Piece g.row.A.Denot). p.number) _ c.sort_unstable_by_key.ensures.sorted
      (λ a r q k. search rules);
}
