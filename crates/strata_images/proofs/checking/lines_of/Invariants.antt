use Rattle.std.proofs.Common.{string_bytes}
use Rattle.strata_images.specs.Texts.{size_line}
use Rattle.strata_images.proofs.Printed.{IsPrinted}
use Rattle.strata_images.proofs.checking.lines_of.Given as goal

-- the lines so far
abbrev pub invariant-loop-layer : goal.invariant-loop-layer
invariant-loop-layer g l = IsPrinted size_line 0 l.fn.sizes l.layer-counter (string_bytes l.lines)
