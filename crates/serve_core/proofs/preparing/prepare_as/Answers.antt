use Rattle.stack_prepare.specs.Layers.{contents_of}
use Rattle.serve_core.proofs.Stops.{refused}
use Rattle.serve_core.proofs.preparing.prepare_as.Goals as goal

pub returns-in_err-images-clause-err : goal.returns-in_err-images-clause-err
returns-in_err-images-clause-err g c =
    refused c.args.profile (contents_of c.args.images) c.in_err-images.field-0.0 c.whole_images.result c.from_residual.result
    c.in_err-images.was c.whole_images.ensures.err c.from_residual.ensures.1
