use Rattle.strata_images.specs.Images.{bytes_of}
use Rattle.strata.proofs.AtSocket.{unbound}
use Rattle.strata_images.proofs.Opened.{seen_as}
use Rattle.strata.proofs.listening.listen.Goals as goal

pub returns-clause-stopped : goal.returns-clause-stopped
returns-clause-stopped g c =
    let images = bytes_of c.args.images.held in
    unbound _ c.args.line.now images c.listen_at.result
    (c.listen_at.ensures.stopped images (seen_as c.args.line.now _ c.in_ok-table.table c.in_ok-table.files c.as_slice.result.now
    c.as_slice.ensures.value c.in_ok-table.ensures.ok))
