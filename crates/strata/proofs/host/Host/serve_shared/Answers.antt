use Rattle.std.proofs.Common.{subst, map}
use Rattle.std.specs.Vec.{with_items}
use Rattle.serve_device.specs.Readers.{AreServedBy, shared}
use Rattle.serve_device.specs.Seats.{seat_of}
use Rattle.devices.specs.declared.limits.TheConstants.{MAX_TURNS}
use Rattle.romfs_files.specs.Data.{source_of}
use Rattle.reply_model.specs.Readings.{sourced}
use Rattle.serve_core.specs.Headline.{bounds}
use Rattle.strata.specs.Ending.{first_of}
use Rattle.strata_images.specs.Images.{bytes_of}
use Rattle.strata_images.proofs.Opened.{seen_as}
use Rattle.strata.proofs.Shared.{shared_with}
use Rattle.strata.proofs.host.Host.serve_shared.Goals as goal

pub returns-clause-served : goal.returns-clause-served
returns-clause-served g c =
    let seat = seat_of {O = g.row.O.Denot} {A = g.row.A.Denot} g.I.Read.remaining in
    let by = sourced c.in_ok-table.table (map source_of c.as_slice.result.now) in
    let first = first_of c.args.line.now in
    let over = shared by (bounds MAX_TURNS 0) in
    let before = c.serve_all-before.result in
    let seats = c.in_ok-seats.seats in
    let new = c.serve_all-before.new.seats in
    let served = rw c.first_of.ensures at c.serve_all-before.ensures in
    let all = shared_with g.I.Read.remaining first over seats c.as_mut_slice.result.now new before c.as_mut_slice.ensures.value served in
    record {
      images = bytes_of c.in_ok-images.images.held;
      read = c.in_ok-images.ensures.read;
      by = by;
      prepared = seen_as c.args.line.now _ c.in_ok-table.table c.in_ok-table.files c.as_slice.result.now c.as_slice.ensures.value
          c.in_ok-table.ensures.ok;
      before = before;
      served = subst (λ old. AreServedBy first over old (map seat (with_items seats new).items) before) c.in_ok-seats.ensures.seats all;
    }
