use Rattle.std.proofs.Common.{sym, subst, arith}
use Rattle.reply_rounds.specs.Batches.{AreOrdered}
use Rattle.reply_rounds.proofs.Hands.{joins, light_enough}
use Rattle.reply_rounds.proofs.pieces.in_order.Goals as goal

pub join_pieces-requires : goal.join_pieces-requires
join_pieces-requires g c =
    let order = subst (AreOrdered c.args.pieces.items) (sym c.deref.ensures.value) c.sort_by_number.ensures in
    let w = light_enough c.args.pieces.items c.deref.result.now order c.requires.once c.requires.light in
    omega arith

pub returns : goal.returns
returns g c =
    let order = subst (AreOrdered c.args.pieces.items) (sym c.deref.ensures.value) c.sort_by_number.ensures in
    joins c.args.pieces.items c.deref.result.now c.join_pieces.result order c.join_pieces.ensures.bytes c.join_pieces.ensures.moves
