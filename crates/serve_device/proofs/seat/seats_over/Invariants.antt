use Rattle.std.proofs.Common.{◌≡◌, map, replicate}
use Rattle.serve_device.specs.Seats.{new_seat, seat_of}
use Rattle.serve_device.proofs.seat.seats_over.Given as goal

-- a new seat for each reader so far
abbrev pub invariant-loop-reader : goal.invariant-loop-reader
invariant-loop-reader g l = map (seat_of g.I.Read.remaining) l.seats.items ≡ replicate l._reader (new_seat (g.I.Read.remaining l.reader))
