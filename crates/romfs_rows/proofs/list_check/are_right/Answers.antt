use Rattle.std.proofs.Common.{◌≡◌, ℕ, sym, arith}
use Rattle.std.specs.Prelude.{true, false}
use Rattle.romfs_format.proofs.Below.{fails_below, one_more}
use Rattle.romfs_format.specs.Extended.{is_list}
use Rattle.romfs_format.specs.Part.{list_count, list_of}
use Rattle.romfs_rows.proofs.list_check.are_right.Goals as goal

pub returns-then-not-is_list : goal.returns-then-not-is_list
returns-then-not-is_list c =
    let y = c.args.lists.now in
    let test = (λ (j : ℕ). is_list (list_of y j)) in
    let e : test c.loop-number.number ≡ false = cc in
    sym (fails_below (list_count y) test c.loop-number.number (omega arith) e)

pub loop-number-preserved : goal.loop-number-preserved
loop-number-preserved c =
    let test = (λ (j : ℕ). is_list (list_of c.args.lists.now j)) in
    let e : test c.loop-number.number ≡ true = cc in
    one_more c.loop-number.number test c.loop-number.invariant e
