use Rattle.std.proofs.Common.{◌≡◌, ◌∙◌, sym, arith}
use Rattle.std.specs.Prelude.{true, false}
use Rattle.romfs_rows.specs.Runs.{rises_at}
use Rattle.romfs_rows.proofs.Runs.{rise_step, rise_fails}
use Rattle.romfs_rows.proofs.list_check.names_rise.Goals as goal

pub returns-then-not-rises_at : goal.returns-then-not-rises_at
returns-then-not-rises_at c =
    let y = c.args.lists.now in
    let at = c.loop-at.at in
    let e : rises_at y c.args.end at ≡ false = cc in
    sym (c.loop-at.invariant ∙ rise_fails y c.args.end at (omega arith) e)

pub loop-at-preserved : goal.loop-at-preserved
loop-at-preserved c =
    let y = c.args.lists.now in
    let at = c.loop-at.at in
    let e : rises_at y c.args.end at ≡ true = cc in
    c.loop-at.invariant ∙ rise_step y c.args.end at (omega arith) e
