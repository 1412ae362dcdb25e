use Rattle.std.proofs.Common.{refl}
use Rattle.strata_images.specs.Images.{bytes_of}
use Rattle.strata_images.proofs.Opened.{seen_as}
use Rattle.strata.proofs.Served.{refused, unopened}
use Rattle.strata.proofs.serving.serve.Goals as goal

pub returns-clause-done : goal.returns-clause-done
returns-clause-done g c = c.serve_streams.ensures.done (bytes_of c.args.images.held)
    (seen_as c.args.line.now _ c.in_ok-table.table c.in_ok-table.files c.as_slice.result.now c.as_slice.ensures.value
    c.in_ok-table.ensures.ok)

pub returns-clause-stopped : goal.returns-clause-stopped
returns-clause-stopped g c = c.serve_streams.ensures.stopped (bytes_of c.args.images.held)
    (seen_as c.args.line.now _ c.in_ok-table.table c.in_ok-table.files c.as_slice.result.now c.as_slice.ensures.value
    c.in_ok-table.ensures.ok)

pub returns-in_err-streams-clause-stopped : goal.returns-in_err-streams-clause-stopped
returns-in_err-streams-clause-stopped g c =
    unopened g.row.A.Denot c.args.line.now _ _ _ c.in_err-streams.field-0.0 c.from_residual.result
    (c.in_err-streams.ensures.err _) c.from_residual.ensures.1

pub returns-in_err-table-clause-stopped : goal.returns-in_err-table-clause-stopped
returns-in_err-table-clause-stopped g c =
    refused g.row.A.Denot c.args.line.now (bytes_of c.args.images.held) _ _ c.in_err-table.field-0.0 c.from_residual-in_err-table.result
    c.in_err-table.ensures.err refl c.from_residual-in_err-table.ensures.1
