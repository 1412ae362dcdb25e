use Rattle.fuse_answer.proofs.Reading.{read_decided}
use Rattle.fuse_answer.proofs.node.read.Goals as goal

pub returns-in-Regular : goal.returns-in-Regular
returns-in-Regular g c = λ agreed.
    read_decided _ c.args.table.now agreed c.args.number c.args.offset c.args.size c.in-Some.node c.part_len.result c.in-Some.ensures
    c.in-Regular.is c.if-size-le-MAX_DATA_SIZE.true c.part_len.ensures
