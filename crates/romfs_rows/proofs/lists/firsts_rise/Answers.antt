use Rattle.std.proofs.Common.{◌≡◌, ℕ, ◌+◌, ◌*◌, sym, arith}
use Rattle.std.specs.Prelude.{true, false, nat_lt}
use Rattle.std.proofs.lemmas.Bool.Decides.{nat_tests}
use Rattle.romfs_format.proofs.Below.{fails_below, one_more}
use Rattle.romfs_format.specs.Part.{first_of, list_count}
use Rattle.romfs_rows.proofs.lists.firsts_rise.Goals as goal

pub returns-then-table_word : goal.returns-then-table_word
returns-then-table_word c =
    let y = c.args.bytes.now in
    let test = (λ (j : ℕ). nat_lt (first_of y j) (first_of y (j + 1))) in
    let n = c.loop-number.number in
    let e : test n ≡ false = grind (arith, nat_tests) in
    sym (fails_below (list_count y) test n (omega arith) e)

pub loop-number-preserved : goal.loop-number-preserved
loop-number-preserved c =
    let y = c.args.bytes.now in
    let test = (λ (j : ℕ). nat_lt (first_of y j) (first_of y (j + 1))) in
    let n = c.loop-number.number in
    let e : test n ≡ true = grind (arith, nat_tests) in
    one_more n test c.loop-number.invariant e
