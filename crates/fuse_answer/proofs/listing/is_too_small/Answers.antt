use Rattle.std.proofs.Common.{◌∙◌, ap, arith}
use Rattle.std.specs.Prelude.{not}
use Rattle.fuse_answer.proofs.Fitting.{cut_found}
use Rattle.fuse_answer.proofs.listing.is_too_small.Goals as goal

pub returns-then-rows-count : goal.returns-then-rows-count
returns-then-rows-count g c = ap not c.fits.ensures ∙ cut_found c.args.rows.now (omega arith)
