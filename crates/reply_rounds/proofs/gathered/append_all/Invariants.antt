use Rattle.std.proofs.Common.{◌≡◌, ◌++◌, take}
use Rattle.std.specs.List.{flat_map}
use Rattle.reply_model.specs.Balances.{IsMoved}
use Rattle.reply_rounds.proofs.gathered.append_all.Given as goal

-- the bytes of the pieces so far were appended, and their moves added
abbrev pub invariant-loop-piece : goal.invariant-loop-piece
invariant-loop-piece g l = record {
  bytes : l.replies.items ≡ l.initial.replies.items ++ flat_map (λ p. p.bytes.items) (take l.piece-index l.pieces);
  moves : IsMoved (flat_map (λ p. p.moves.items) (take l.piece-index l.pieces)) l.initial.balances l.balances;
}
