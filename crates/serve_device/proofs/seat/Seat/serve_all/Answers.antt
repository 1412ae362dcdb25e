use Rattle.std.proofs.Common.{◌≡◌, sym, subst, ℕ, List, map, slice_index_or, slice_set, Option}
use Rattle.fuse_answer.specs.Puts.{sourced_by}
use Rattle.serve_core.specs.Headline.{bounds_of}
use Rattle.serve_device.specs.Readers.{AreServedBy, HasOpened, shared}
use Rattle.serve_device.specs.Seats.{SeatState, new_seat, seat_of}
use Rattle.serve_device.proofs.Reading.{at_place, ready_all, ready_new, ready_on, served_by_all, served_by_one}
use Rattle.serve_device.proofs.seat.Seat.serve_all.Goals as goal

-- a seat whose reader has not begun
abbrev is_new : {A : Type 0} → SeatState A → Type 0
is_new seat = (left : Option (List ℕ)) × (seat ≡ new_seat left)

pub open-requires-after_bounds : goal.open-requires-after_bounds
open-requires-after_bounds g c = λ κs lives.
    let seat = seat_of {O = g.row.O.Denot} {A = g.row.A.Denot} g.I.Read.remaining in
    ready_new c.args.serving.now.terms.turns (seat (slice_index_or c.args.seats.now 0 c.index-seats-0.result))
    (at_place is_new seat c.args.seats.now 0 c.index-seats-0.result c.requires.some c.requires.new) c.requires.turns

pub returns-in_err-session : goal.returns-in_err-session
returns-in_err-session g c =
    let seat = seat_of {O = g.row.O.Denot} {A = g.row.A.Denot} g.I.Read.remaining in
    let serving = c.args.serving.now in
    let first = serving.terms.first in
    let by = sourced_by g.D.Contents.source serving.served in
    let within = bounds_of g.D.Contents.source serving in
    let old = seat (slice_index_or c.args.seats.now 0 c.index-seats-0.result) in
    let opened = subst (λ r. HasOpened first (shared by within) old (seat c.open.new.self) r) c.in_err-session.was c.open.ensures in
    let all = map seat (slice_set c.args.seats.now 0 c.open.new.self) in
    subst (λ r. AreServedBy first (shared by within) (map seat c.args.seats.now) all r)
    (sym c.from_residual.ensures)
    (served_by_one first by within seat c.args.seats.now c.index-seats-0.result c.open.new.self c.requires.some opened)

pub serve_together-requires-clause-ready : goal.serve_together-requires-clause-ready
serve_together-requires-clause-ready g c = λ κs lives.
    let seat = seat_of {O = g.row.O.Denot} {A = g.row.A.Denot} g.I.Read.remaining in
    let serving = c.args.serving.now in
    let first = serving.terms.first in
    let by = sourced_by g.D.Contents.source serving.served in
    let within = bounds_of g.D.Contents.source serving in
    let old = seat (slice_index_or c.args.seats.now 0 c.index-seats-0.result) in
    let new = seat c.open.new.self in
    let opened = subst (λ r. HasOpened first (shared by within) old new r) c.in_ok-session.was c.open.ensures in
    let unused = at_place is_new seat c.args.seats.now 0 c.index-seats-0.result c.requires.some c.requires.new in
    ready_all within.turns seat c.args.seats.now c.open.new.self c.requires.some c.requires.new c.requires.turns
    (ready_on first by within old new c.in_ok-session.field-0 unused c.requires.turns opened)

pub returns : goal.returns
returns g c =
    let seat = seat_of {O = g.row.O.Denot} {A = g.row.A.Denot} g.I.Read.remaining in
    let serving = c.args.serving.now in
    let first = serving.terms.first in
    let by = sourced_by g.D.Contents.source serving.served in
    let within = bounds_of g.D.Contents.source serving in
    let old = seat (slice_index_or c.args.seats.now 0 c.index-seats-0.result) in
    let opened = subst (λ r. HasOpened first (shared by within) old (seat c.open.new.self) r) c.in_ok-session.was c.open.ensures in
    served_by_all first by within seat c.args.seats.now c.index-seats-0.result c.open.new.self c.in_ok-session.field-0
    (map seat c.serve_together.new.seats) c.requires.some opened c.serve_together.ensures
