use Rattle.strata_images.proofs.Listed.{list_stopped}
use Rattle.strata_images.proofs.listing.put_list.Goals as goal

pub returns-in_err-write_list-clause-stopped : goal.returns-in_err-write_list-clause-stopped
returns-in_err-write_list-clause-stopped g c = λ profile images stacked.
    list_stopped _ _ c.from_residual.result c.in_err-write_list.field-0.0 stacked c.in_err-write_list.ensures.err
    c.from_residual.ensures.1
