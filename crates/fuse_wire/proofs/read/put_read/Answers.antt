use Rattle.std.proofs.Common.{rules}
use Rattle.fuse_wire.proofs.Sizes.{length-reply_with}
use Rattle.fuse_wire.proofs.read.put_read.Goals as goal

pub returns-in_err-stand : goal.returns-in_err-stand
returns-in_err-stand g c = λ bytes long. let e = length-reply_with c.args.unique bytes in search (rules, long, e)
