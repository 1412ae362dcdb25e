use Rattle.std.proofs.Common.{arith, string_bytes}
use Rattle.strata_images.specs.Texts.{size_line}
use Rattle.strata_images.proofs.Printed.{none_printed, one_more_printed, all_printed}
use Rattle.strata_images.proofs.checking.lines_of.Goals as goal

pub loop-layer-init : goal.loop-layer-init
loop-layer-init g c = none_printed size_line 0 c.args.sizes.now (string_bytes c.new-lines.result) c.new-lines.ensures.bytes

pub loop-layer-preserved : goal.loop-layer-preserved
loop-layer-preserved g c = one_more_printed size_line 0 _ c.loop-layer.invariant _ c.loop-layer.layer-counter 0 (omega arith)
    c.loop-layer-test.true c.in_ok-writeln.ensures.bytes

pub returns : goal.returns
returns g c = all_printed size_line 0 _ _ _ c.loop-layer-test.false c.loop-layer.invariant
