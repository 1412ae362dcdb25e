use Rattle.std.proofs.Common.{take}
use Rattle.reply_model.specs.Balances.{IsMoved}
use Rattle.reply_model.proofs.adding.add_moves.Given as goal

-- the moves so far were added to the balances
abbrev pub invariant-loop-m : goal.invariant-loop-m
invariant-loop-m l = IsMoved (take l.m-index l.moves) l.initial.balances l.balances
