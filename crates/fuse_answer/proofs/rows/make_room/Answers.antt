use Rattle.std.proofs.Common.{refl, arith}
use Rattle.std.proofs.lemmas.Result.{err_from_is_err_and}
use Rattle.fuse_answer.proofs.Fitting.{size_few, size_found}
use Rattle.fuse_answer.proofs.rows.make_room.Goals as goal

pub returns-in_err-make_room : goal.returns-in_err-make_room
returns-in_err-make_room g c =
    let failed = err_from_is_err_and c.from_residual.result c.from_residual.ensures.1 in
    let found = size_found c.args.rows.now c.fit-size.result.0 c.fit-size.result.1 c.fit-size.ensures in
    let full = c.in_err-make_room.ensures.2 in
    rw failed.1 (c.in_err-make_room.ensures.0, tt, omega arith, c.in_err-make_room.ensures.3)

pub returns-in_ok-make_room : goal.returns-in_ok-make_room
returns-in_ok-make_room g c =
    let found = size_found c.args.rows.now c.fit-size.result.0 c.fit-size.result.1 c.fit-size.ensures in
    let room = c.in_ok-make_room.ensures.1 in
    (c.in_ok-make_room.ensures.0, omega arith, tt, c.in_ok-make_room.ensures.3)

pub returns-else-room_left-rows : goal.returns-else-room_left-rows
returns-else-room_left-rows g c =
    let few = size_few c.args.rows.now in
    let room = c.if-room_left-rows.false in
    let left = c.room_left.ensures in
    (refl, omega arith, tt, omega arith)
