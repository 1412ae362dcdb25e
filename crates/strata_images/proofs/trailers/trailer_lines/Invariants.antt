use Rattle.std.proofs.Common.{string_bytes}
use Rattle.strata_images.proofs.Noted.{trailer_of}
use Rattle.strata_images.proofs.Printed.{IsPrinted}
use Rattle.strata_images.proofs.trailers.trailer_lines.Given as goal

-- the lines so far
abbrev pub invariant-loop-layer : goal.invariant-loop-layer
invariant-loop-layer g l = IsPrinted (trailer_of {F = g.row.F.Denot} {A = g.row.A.Denot}) 0 l.fn.images l.layer (string_bytes l.lines)
