use Rattle.std.proofs.Common.{ap, length, arith}
use Rattle.fuse_answer.proofs.Fitting.{child_length}
use Rattle.fuse_answer.proofs.listing.name_length.Goals as goal

pub returns-in_default : goal.returns-in_default
returns-in_default g c =
    child_length c.args.children.now c.args.index c.index-children-index.result (length c.name.result.now) (omega arith) (omega arith)
    c.index-children-index.is (ap length c.name.ensures)
