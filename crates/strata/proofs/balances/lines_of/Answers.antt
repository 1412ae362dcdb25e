use Rattle.std.proofs.Common.{pos, refl, string_bytes}
use Rattle.strata.specs.Texts.{balance_line}
use Rattle.strata_images.proofs.Printed.{none_printed, one_more_printed, all_printed}
use Rattle.strata.proofs.balances.lines_of.Goals as goal

pub loop-place-init : goal.loop-place-init
loop-place-init g c = none_printed balance_line 1 c.args.balances.now (string_bytes c.new-lines.result) c.new-lines.ensures.bytes

pub loop-place-preserved : goal.loop-place-preserved
loop-place-preserved g c = one_more_printed balance_line 1 _ c.loop-place.invariant _ _ (pos 0) refl c.loop-place-test.true
    c.in_ok-writeln.ensures.bytes

pub returns : goal.returns
returns g c = all_printed balance_line 1 _ _ _ c.loop-place-test.false c.loop-place.invariant
