use Rattle.std.proofs.Common.{◌≡◌, ◌∙◌, sym, arith}
use Rattle.std.specs.Prelude.{true, false}
use Rattle.romfs_format.specs.Extended.{is_extended}
use Rattle.romfs_format.specs.Part.{attribute}
use Rattle.romfs_rows.proofs.Runs.{all_step, all_fails}
use Rattle.romfs_rows.proofs.list_check.are_extended.Goals as goal

pub returns-then-not-is_extended : goal.returns-then-not-is_extended
returns-then-not-is_extended c =
    let y = c.args.lists.now in
    let at = c.loop-at.at in
    let e : is_extended (attribute y at) ≡ false = cc in
    sym (c.loop-at.invariant ∙ all_fails y c.args.end at (omega arith) e)

pub loop-at-preserved : goal.loop-at-preserved
loop-at-preserved c =
    let y = c.args.lists.now in
    let at = c.loop-at.at in
    let e : is_extended (attribute y at) ≡ true = cc in
    c.loop-at.invariant ∙ all_step y c.args.end at (omega arith) e
