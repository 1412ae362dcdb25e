use Rattle.std.proofs.Common.{◌∙◌, ap, map}
use Rattle.serve_device.specs.Seats.{end_of_all, seat_of}
use Rattle.strata.specs.Readers.{status_of_end}
use Rattle.strata.proofs.host.Host.mount_by_readers.Goals as goal

pub returns-in-Ok : goal.returns-in-Ok
returns-in-Ok g c =
    let seat = seat_of {O = g.row.O.Denot} {A = g.row.A.Denot} g.I.Read.remaining in (
      c.tell_end.ensures ∙ ap status_of_end (c.end_of_all.ensures ∙ ap (λ seats. end_of_all (map seat seats)) c.as_slice.ensures.value),
      c.in-Ok.ensures.served,
    )

pub returns-in-Err : goal.returns-in-Err
returns-in-Err g c = (c.in-Err.fault, c.end.ensures.status, c.in-Err.ensures.stopped)
