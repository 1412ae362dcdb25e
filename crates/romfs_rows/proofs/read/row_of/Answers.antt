use Rattle.std.proofs.Common.{◌∙◌, ap, arith, length, drop, length-drop}
use Rattle.std.proofs.lemmas.List.{length-take-le}
use Rattle.romfs_format.specs.declared.limits.TheConstants.{ROW_SIZE}
use Rattle.romfs_rows.proofs.read.row_of.Goals as goal

pub row_in-requires : goal.row_in-requires
row_in-requires c =
    let d = length-drop c.row_start.result c.args.trailer.now in
    let e = c.row_start.ensures.value in
    ap length c.in-Some.ensures ∙ length-take-le ROW_SIZE (drop c.row_start.result c.args.trailer.now) (omega arith)
