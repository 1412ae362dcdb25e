use Rattle.std.proofs.Common.{◌≡◌, ◌∙◌, ◌*◌, sym, arith}
use Rattle.std.specs.Prelude.{true, false}
use Rattle.romfs_format.specs.Extended.{is_acl_name}
use Rattle.romfs_format.specs.Part.{piece}
use Rattle.romfs_rows.proofs.Runs.{any_step, any_found}
use Rattle.romfs_rows.proofs.file_xattrs.has_acl.Goals as goal

pub returns-then-is_acl_name : goal.returns-then-is_acl_name
returns-then-is_acl_name c =
    let y = c.args.lists.now in
    let at = c.loop-at.at in
    let e : is_acl_name (piece y (2 * at)) ≡ true = cc in
    sym (c.loop-at.invariant ∙ any_found y c.args.end at (omega arith) e)

pub loop-at-preserved : goal.loop-at-preserved
loop-at-preserved c =
    let y = c.args.lists.now in
    let at = c.loop-at.at in
    let e : is_acl_name (piece y (2 * at)) ≡ false = cc in
    c.loop-at.invariant ∙ any_step y c.args.end at (omega arith) e
