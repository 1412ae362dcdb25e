use Rattle.std.proofs.Common.{◌∙◌, ap, length, arith}
use Rattle.std.proofs.lemmas.Result.{err_from_is_err_and}
use Rattle.fuse_wire.proofs.Sizes.{length-head, length-reply_with}
use Rattle.fuse_wire.specs.Replies.{reply_head}
use Rattle.fuse_answer.specs.Listings.{listed_data}
use Rattle.fuse_answer.proofs.Fitting.{size_few}
use Rattle.fuse_answer.proofs.Writing.{header_set, reply_long, room_left, rows_behind, size_is}
use Rattle.fuse_answer.proofs.rows.put_rows_and_move.Goals as goal

pub returns-in_err-make_room-clause-reply : goal.returns-in_err-make_room-clause-reply
returns-in_err-make_room-clause-reply g c =
    let failed = err_from_is_err_and c.from_residual.result c.from_residual.ensures.1 in
    let size = length-reply_with c.args.unique (listed_data c.args.table.now c.args.rows.now) in
    let all = size_is c.args.table.now c.args.rows.now in
    let full = c.in_err-make_room.ensures.2 in
    rw failed.1 (tt, c.in_err-make_room.ensures.0, omega arith, c.in_err-make_room.ensures.3)

pub returns-in_err-put_data_head-clause-reply : goal.returns-in_err-put_data_head-clause-reply
returns-in_err-put_data_head-clause-reply g c =
    let made = c.in_ok-make_room.ensures in
    let kept = ap length made.0 in
    let head_size = length-head c.args.unique 0 in
    absurd (omega (arith, kept, made.1, c.in_err-put_data_head.ensures.2))

pub put_listed-requires-clause-room : goal.put_listed-requires-clause-room
put_listed-requires-clause-room g c =
    room_left _ _ _ _ _ _ _ c.in_ok-make_room.ensures.0 c.in_ok-put_data_head.ensures.0 (length-head c.args.unique 0)
    c.in_ok-make_room.ensures.1 c.in_ok-put_data_head.ensures.3

pub returns-in_err-put_listed-clause-reply : goal.returns-in_err-put_listed-clause-reply
returns-in_err-put_listed-clause-reply g c =
    let room = room_left _ _ _ _ _ _ _ c.in_ok-make_room.ensures.0 c.in_ok-put_data_head.ensures.0 (length-head c.args.unique 0)
    c.in_ok-make_room.ensures.1 c.in_ok-put_data_head.ensures.3 in
    absurd (omega (arith, room, size_is c.args.table.now c.args.rows.now, c.in_err-put_listed.ensures.rows.2))

pub returns-in_err-put_listed-clause-none : goal.returns-in_err-put_listed-clause-none
returns-in_err-put_listed-clause-none g c =
    let room = room_left _ _ _ _ _ _ _ c.in_ok-make_room.ensures.0 c.in_ok-put_data_head.ensures.0 (length-head c.args.unique 0)
    c.in_ok-make_room.ensures.1 c.in_ok-put_data_head.ensures.3 in
    absurd (omega (arith, room, size_is c.args.table.now c.args.rows.now, c.in_err-put_listed.ensures.rows.2))

pub set_data_head-requires-clause-there : goal.set_data_head-requires-clause-there
set_data_head-requires-clause-there g c =
    let is = rows_behind c.args.out.now.items c.make_room.new.out.items (reply_head c.args.unique 0) c.put_data_head.new.out.items
    (listed_data c.args.table.now c.args.rows.now) c.put_listed.new.out.items c.in_ok-make_room.ensures.0
    c.in_ok-put_data_head.ensures.0 c.in_ok-put_listed.ensures.rows.0 in
    let long = reply_long c.args.out.now.items (reply_head c.args.unique 0) (listed_data c.args.table.now c.args.rows.now)
    c.put_listed.new.out.items is (length-head c.args.unique 0) in
    let here = c.len-start.ensures.len ∙ ap length c.in_ok-make_room.ensures.0 in
    omega arith

pub set_data_head-requires-clause-size : goal.set_data_head-requires-clause-size
set_data_head-requires-clause-size g c =
    let is = rows_behind c.args.out.now.items c.make_room.new.out.items (reply_head c.args.unique 0) c.put_data_head.new.out.items
    (listed_data c.args.table.now c.args.rows.now) c.put_listed.new.out.items c.in_ok-make_room.ensures.0
    c.in_ok-put_data_head.ensures.0 c.in_ok-put_listed.ensures.rows.0 in
    let long = reply_long c.args.out.now.items (reply_head c.args.unique 0) (listed_data c.args.table.now c.args.rows.now)
    c.put_listed.new.out.items is (length-head c.args.unique 0) in
    let here = c.len-start.ensures.len ∙ ap length c.in_ok-make_room.ensures.0 in
    let all = size_is c.args.table.now c.args.rows.now in
    omega (arith, long, here, all, size_few c.args.rows.now, c.requires.whole.small)

pub returns-clause-reply : goal.returns-clause-reply
returns-clause-reply g c =
    let is = rows_behind c.args.out.now.items c.make_room.new.out.items (reply_head c.args.unique 0) c.put_data_head.new.out.items
    (listed_data c.args.table.now c.args.rows.now) c.put_listed.new.out.items c.in_ok-make_room.ensures.0
    c.in_ok-put_data_head.ensures.0 c.in_ok-put_listed.ensures.rows.0 in
    let here = c.len-start.ensures.len ∙ ap length c.in_ok-make_room.ensures.0 in (
      header_set c.args.unique c.args.out.now.items (reply_head c.args.unique 0) (listed_data c.args.table.now c.args.rows.now)
          c.put_listed.new.out.items c.set_data_head.new.out.items c.len-start.result is here (length-head c.args.unique 0)
          c.set_data_head.ensures.items,
      tt,
      tt,
      omega (
        arith,
        c.in_ok-make_room.ensures.3,
        c.in_ok-put_data_head.ensures.3,
        c.in_ok-put_listed.ensures.rows.3,
        c.set_data_head.ensures.room,
      ),
    )
