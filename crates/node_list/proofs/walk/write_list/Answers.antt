use Rattle.node_list.proofs.Ended.{broken, listed}
use Rattle.node_list.proofs.walk.write_list.Goals as goal

pub returns-in_err-drain-clause-err : goal.returns-in_err-drain-clause-err
returns-in_err-drain-clause-err g c =
    broken c.args.table.now c.from_residual-in_err-drain.result c.from_residual-in_err-drain.ensures.1 c.in_ok-put_all.ensures
    c.in_err-drain.ensures.put c.in_ok-room.ensures

pub returns-clause-ok : goal.returns-clause-ok
returns-clause-ok g c =
    listed c.args.table.now c.in_ok-put_all.ensures c.in_ok-drain.ensures.put c.in_ok-room.ensures c.in_ok-drain.ensures.items
