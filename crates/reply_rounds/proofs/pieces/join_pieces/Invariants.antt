use Rattle.std.proofs.Common.{◌≡◌, take}
use Rattle.std.specs.List.{flat_map}
use Rattle.reply_rounds.proofs.pieces.join_pieces.Given as goal

-- the bytes and moves of the pieces so far
abbrev pub invariant-loop-piece : goal.invariant-loop-piece
invariant-loop-piece g l = record {
  bytes : l.bytes.items ≡ flat_map (λ p. p.bytes.items) (take l.piece-index l.pieces);
  moves : l.moves.items ≡ flat_map (λ p. p.moves.items) (take l.piece-index l.pieces);
}
