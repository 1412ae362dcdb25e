use Rattle.std.proofs.Common.{arith}
use Rattle.layer_names.proofs.Halves.{borrowed}
use Rattle.layer_names.proofs.run.if_less.Goals as goal

pub returns : goal.returns
returns c = rw (c.from.ensures, c.from-2.ensures) (borrowed c.args.x c.args.y c.args.number (omega arith) (omega arith) (omega arith))
