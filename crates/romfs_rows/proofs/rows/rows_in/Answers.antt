use Rattle.std.proofs.Common.{ap, length, arith}
use Rattle.romfs_rows.proofs.Kept.{first_length}
use Rattle.romfs_rows.proofs.rows.rows_in.Goals as goal

pub returns-clause-few : goal.returns-clause-few
returns-clause-few g c =
    let n = first_length c.args.trailer.now c.loop-number.number in
    let is = ap length c.loop-number.invariant in
    omega arith
