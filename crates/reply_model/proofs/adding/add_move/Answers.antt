use Rattle.reply_model.proofs.Sums.{adds, sum_fits}
use Rattle.reply_model.proofs.adding.add_move.Goals as goal

pub overflow_add-balances : goal.overflow_add-balances
overflow_add-balances c = sum_fits c.args.balances.now c.args.node c.args.amount c.requires.within c.requires.small c.if-place-balances.true

pub returns-then-place-balances : goal.returns-then-place-balances
returns-then-place-balances c = adds c.args.balances.now c.args.node c.args.amount c.requires.within
    c.requires.small c.if-place-balances.true c.if-node-eq0.false
