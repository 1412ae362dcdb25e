use Rattle.std.proofs.Common.{◌≡◌, sym, subst, arith, map, replicate}
use Rattle.serve_device.specs.Seats.{AreNew, new_seat, seat_of}
use Rattle.serve_device.proofs.Reading.{all_new, as_many}
use Rattle.serve_device.proofs.seat.seats_over.Goals as goal

pub returns-clause-seats : goal.returns-clause-seats
returns-clause-seats g c =
    let seat = seat_of {O = g.row.O.Denot} {A = g.row.A.Denot} g.I.Read.remaining in
    let new = new_seat (g.I.Read.remaining c.args.reader) in
    let all = c.loop-reader-test.false in
    let few = c.loop-reader.auto._reader-end in
    let same : c.loop-reader._reader ≡ c.args.readers = omega arith in
    subst (λ n. map seat c.loop-reader.seats.items ≡ replicate n new) same c.loop-reader.invariant

pub returns-clause-count : goal.returns-clause-count
returns-clause-count g c =
    let seat = seat_of {O = g.row.O.Denot} {A = g.row.A.Denot} g.I.Read.remaining in
    let new = new_seat (g.I.Read.remaining c.args.reader) in
    let made = as_many seat c.loop-reader.seats.items c.loop-reader._reader new c.loop-reader.invariant in
    let all = c.loop-reader-test.false in
    let few = c.loop-reader.auto._reader-end in
    omega arith

pub returns-clause-new : goal.returns-clause-new
returns-clause-new g c =
    subst (λ seats. AreNew seats) (sym c.loop-reader.invariant)
    (all_new g.row.A.Denot c.loop-reader._reader (g.I.Read.remaining c.args.reader))
