use Rattle.std.proofs.Common.{◌^◌, List, ap, append-nil, arith, subst, sym, take}
use Rattle.reply_model.specs.Balances.{IsMoved, weight}
use Rattle.reply_model.specs.declared.moves.Move.{Move}
use Rattle.reply_model.proofs.Sums.{none_moved, still_within}
use Rattle.reply_rounds.proofs.Adding.{all_on, bytes_on, moves_of, moves_on, next_light}
use Rattle.reply_rounds.proofs.gathered.append_all.Goals as goal

pub add_moves-requires-clause-light : goal.add_moves-requires-clause-light
add_moves-requires-clause-light g c =
    let w = next_light c.args.pieces.now c.loop-piece.piece-index c.piece-item.result c.loop-piece-test.true c.piece-item.is in
    let e = ap weight c.deref.ensures.value in
    let light = c.requires.light in
    omega arith

pub add_moves-requires-clause-within : goal.add_moves-requires-clause-within
add_moves-requires-clause-within g c =
    let w = next_light c.args.pieces.now c.loop-piece.piece-index c.piece-item.result c.loop-piece-test.true c.piece-item.is in
    let light = c.requires.light in
    still_within (2 ^ 122) (2 ^ 123) (moves_of (take c.loop-piece.piece-index c.args.pieces.now)) c.args.balances.now c.loop-piece.balances
    c.requires.within c.loop-piece.invariant.moves (omega arith)

pub loop-piece-preserved : goal.loop-piece-preserved
loop-piece-preserved g c =
    let p = c.piece-item.result in
    let there = c.loop-piece-test.true in
    let is = c.piece-item.is in
    record {
      bytes = bytes_on c.args.pieces.now c.loop-piece.piece-index p c.args.replies.now.items c.loop-piece.replies.items
          c.as_slice.result.now c.append.new.self.items there is
          c.loop-piece.invariant.bytes c.in_ok-append.ensures.0 c.as_slice.ensures;
      moves = moves_on c.args.pieces.now c.loop-piece.piece-index p c.args.balances.now c.loop-piece.balances c.add_moves.new.balances there
          is
          c.loop-piece.invariant.moves (subst (λ (ms : List Move). IsMoved ms c.loop-piece.balances c.add_moves.new.balances)
          c.deref.ensures.value c.add_moves.ensures);
    }

pub loop-piece-init : goal.loop-piece-init
loop-piece-init g c = record { bytes = sym (append-nil c.args.replies.now.items); moves = none_moved c.args.balances.now }

pub returns : goal.returns
returns g c =
    all_on c.args.pieces.now c.loop-piece.piece-index c.args.replies.now.items c.loop-piece.replies.items c.args.balances.now
    c.loop-piece.balances c.loop-piece-test.false c.loop-piece.invariant.bytes c.loop-piece.invariant.moves
