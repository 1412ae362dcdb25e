use Rattle.std.proofs.Common.{◌^◌, ℤ, List, [], ◌∷◌, ap, arith, get_or, subst, take, take_all, unsigned_abs}
use Rattle.reply_model.specs.Balances.{IsMoved}
use Rattle.reply_model.proofs.Sums.{as_held, none_moved, nothing, one_more_move, still_within, weight_within}
use Rattle.reply_model.specs.declared.moves.Move.{Move}
use Rattle.reply_model.proofs.adding.add_moves.Goals as goal

pub loop-m-init : goal.loop-m-init
loop-m-init c = none_moved c.args.balances.now

pub add_move-requires-clause-within : goal.add_move-requires-clause-within
add_move-requires-clause-within c =
    let xs = c.args.moves.now in
    let w = weight_within xs c.loop-m.m-index c.loop-m-test.true in
    let light = c.requires.light in
    still_within (2 ^ 123) (2 ^ 125) (take c.loop-m.m-index xs) c.args.balances.now c.loop-m.balances c.requires.within c.loop-m.invariant
    (omega arith)

pub add_move-requires-clause-small : goal.add_move-requires-clause-small
add_move-requires-clause-small c =
    let w = weight_within c.args.moves.now c.loop-m.m-index c.loop-m-test.true in
    let light = c.requires.light in
    let e = ap unsigned_abs (as_held (get_or c.args.moves.now c.loop-m.m-index nothing).amount (omega arith)) in
    omega arith

pub loop-m-preserved : goal.loop-m-preserved
loop-m-preserved c =
    let w = weight_within c.args.moves.now c.loop-m.m-index c.loop-m-test.true in
    let light = c.requires.light in
    let m : Move = get_or c.args.moves.now c.loop-m.m-index nothing in
    one_more_move c.args.moves.now c.loop-m.m-index c.args.balances.now c.loop-m.balances c.add_move.new.balances c.loop-m-test.true
    c.loop-m.invariant
    (subst (λ (z : ℤ). IsMoved (record { node = m.node; amount = z } ∷ []) c.loop-m.balances c.add_move.new.balances)
    (as_held m.amount (omega arith)) c.add_move.ensures)

pub returns : goal.returns
returns c = subst (λ (ms : List Move). IsMoved ms c.args.balances.now c.loop-m.balances) (take_all c.loop-m.m-index c.args.moves.now
    (omega arith)) c.loop-m.invariant
