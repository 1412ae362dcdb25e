use Rattle.std.proofs.Common.{string_bytes}
use Rattle.strata.specs.Texts.{balance_line}
use Rattle.strata_images.proofs.Printed.{IsPrinted}
use Rattle.strata.proofs.balances.lines_of.Given as goal

-- the lines so far
abbrev pub invariant-loop-place : goal.invariant-loop-place
invariant-loop-place g l = IsPrinted balance_line 1 l.fn.balances l.place (string_bytes l.lines)
