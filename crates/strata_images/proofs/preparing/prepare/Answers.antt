use Rattle.std.proofs.Common.{◌∙◌}
use Rattle.strata_images.specs.Images.{are_whole, bytes_of, sources_of}
use Rattle.strata_images.proofs.Opened.{stacked_sources}
use Rattle.strata_images.proofs.preparing.prepare.Goals as goal

pub returns-clause-ok : goal.returns-clause-ok
returns-clause-ok g c = record {
  stacked = rw c.profile_of-profile.ensures at c.in_ok-table.ensures.ok;
  sources = stacked_sources c.args.line.now (are_whole c.args.images.held) c.in_ok-table.table.whole (bytes_of c.args.images.held)
      (sources_of c.args.images.files) (λ whole. c.in_ok-table.ensures.whole ∙ whole) c.requires;
}
