use Rattle.std.proofs.Common.{◌≡◌, sym, arith}
use Rattle.std.specs.Prelude.{true, false}
use Rattle.romfs_format.proofs.Below.{fails_below, one_more}
use Rattle.romfs_format.specs.Acls.{acl_count, is_acl_entry}
use Rattle.romfs_rows.proofs.acl.are_entries.Goals as goal

pub returns-then-not-is_entry : goal.returns-then-not-is_entry
returns-then-not-is_entry c =
    let v = c.args.value.now in
    let e : is_acl_entry v c.loop-number.number ≡ false = cc in
    sym (fails_below (acl_count v) (is_acl_entry v) c.loop-number.number (omega arith) e)

pub loop-number-preserved : goal.loop-number-preserved
loop-number-preserved c =
    let v = c.args.value.now in
    let e : is_acl_entry v c.loop-number.number ≡ true = cc in
    one_more c.loop-number.number (is_acl_entry v) c.loop-number.invariant e
