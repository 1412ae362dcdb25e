use Rattle.node_list.proofs.Gaining.{failed_longer, handed_on, puts_more}
use Rattle.node_list.proofs.room.Room.put.Goals as goal

pub returns-in_err-drain : goal.returns-in_err-drain
returns-in_err-drain g c = failed_longer c.from_residual.result c.args.bytes.now c.from_residual.ensures.0 c.in_err-drain.ensures.put

pub returns : goal.returns
returns g c =
    puts_more c.in_ok-drain.ensures.put (handed_on c.args.bytes.now _ _ _ c.hand_on.ensures c.in_ok-drain.ensures.items)
