use Rattle.std.proofs.Common.{◌≡◌, ◌∙◌, ◌+◌, ◌*◌, length, ap, arith}
use Rattle.romfs_format.specs.Part.{piece}
use Rattle.romfs_rows.proofs.Runs.{names_step}
use Rattle.romfs_rows.proofs.list_check.names_fit.Goals as goal

pub loop-at-preserved : goal.loop-at-preserved
loop-at-preserved c =
    let y = c.args.lists.now in
    let at = c.loop-at.at in
    let s = names_step y c.args.end at (omega arith) in
    let n : length c.name.result.now ≡ length (piece y (2 * at)) = ap length c.name.ensures.value in
    record { whole = (let w = c.loop-at.invariant.whole in omega arith); fits = omega arith }
