use Rattle.std.proofs.Common.{◌≤◌, List, ap, arith, length, subst}
use Rattle.reply_model.specs.declared.moves.Move.{Move}
use Rattle.reply_model.specs.Balances.{weight}
use Rattle.reply_rounds.specs.declared.pieces.Piece.{Piece}
use Rattle.reply_rounds.specs.Sums.{AreSums}
use Rattle.reply_rounds.proofs.Told.{told_all, told_on}
use Rattle.reply_rounds.proofs.pieces.join_pieces.Goals as goal

pub loop-piece-init : goal.loop-piece-init
loop-piece-init g c = record { bytes = c.new-bytes.ensures; moves = c.new-moves.ensures.items }

pub loop-piece-preserved : goal.loop-piece-preserved
loop-piece-preserved g c =
    let ps = c.args.pieces.now in
    let i = c.loop-piece.piece-index in
    let p = c.piece-item.result in
    let there = c.loop-piece-test.true in
    let is = c.piece-item.is in
    record {
      bytes = told_on (λ (q : Piece g.row.A.Denot). q.bytes.items) ps i p c.loop-piece.bytes.items c.as_slice.result.now
          c.append.new.self.items there is c.loop-piece.invariant.bytes c.in_ok-append.ensures.0 c.as_slice.ensures;
      moves = told_on (λ (q : Piece g.row.A.Denot). q.moves.items) ps i p c.loop-piece.moves.items c.deref.result.now
          c.extend_from_slice.new.self.items there is c.loop-piece.invariant.moves
          c.in_ok-extend_from_slice.ensures.items c.deref.ensures.value;
    }

pub sums-requires : goal.sums-requires
sums-requires g c =
    let past : length c.args.pieces.now ≤ c.loop-piece.piece-index = c.loop-piece-test.false in
    let same = ap weight (told_all (λ (q : Piece g.row.A.Denot). q.moves.items) c.args.pieces.now c.loop-piece.piece-index
    c.loop-piece.moves.items past c.loop-piece.invariant.moves) in
    let light = c.requires in
    omega arith

pub returns : goal.returns
returns g c =
    let ps = c.args.pieces.now in
    let i = c.loop-piece.piece-index in
    let past : length ps ≤ i = c.loop-piece-test.false in
    record {
      bytes = told_all (λ (q : Piece g.row.A.Denot). q.bytes.items) ps i c.loop-piece.bytes.items past c.loop-piece.invariant.bytes;
      moves = subst (λ (ms : List Move). AreSums ms c.in_ok-moves.moves.items)
          (told_all (λ (q : Piece g.row.A.Denot). q.moves.items) ps i c.loop-piece.moves.items past c.loop-piece.invariant.moves)
          c.in_ok-moves.ensures.sums;
    }
