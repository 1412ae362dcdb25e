use Rattle.std.proofs.Common.{◌∙◌, ◌++◌, ap, length, arith, append_assoc}
use Rattle.std.proofs.lemmas.Result.{err_from_is_err_and}
use Rattle.fuse_wire.proofs.Sizes.{length-head, length-reply_with}
use Rattle.fuse_wire.specs.Replies.{reply_head, reply_with}
use Rattle.fuse_answer.specs.Names.{names_said}
use Rattle.fuse_answer.proofs.Writing.{room_left}
use Rattle.fuse_answer.proofs.names.put_names.Goals as goal

pub returns-in_err-make_room : goal.returns-in_err-make_room
returns-in_err-make_room g c =
    let failed = err_from_is_err_and c.from_residual.result c.from_residual.ensures.1 in
    let size = length-reply_with c.args.unique (names_said c.args.names.now) in
    let all = c.len-size.ensures.value in
    let full = c.in_err-make_room.ensures.2 in
    rw failed.1 (tt, c.in_err-make_room.ensures.0, omega arith, c.in_err-make_room.ensures.3)

pub returns-in_err-put_data_head : goal.returns-in_err-put_data_head
returns-in_err-put_data_head g c =
    let made = c.in_ok-make_room.ensures in
    let kept = ap length made.0 in
    let head_size = length-head c.args.unique c.len-size.result in
    absurd (omega (arith, kept, made.1, c.in_err-put_data_head.ensures.2))

pub put_all-requires : goal.put_all-requires
put_all-requires g c =
    let room = room_left _ _ _ _ _ _ _ c.in_ok-make_room.ensures.0 c.in_ok-put_data_head.ensures.0
    (length-head c.args.unique c.len-size.result) c.in_ok-make_room.ensures.1 c.in_ok-put_data_head.ensures.3 in
    omega (arith, room, c.len-size.ensures.value)

pub returns : goal.returns
unfolding reply_with
returns g c =
    let said = names_said c.args.names.now in
    let first = c.args.out.now.items in
    let head = reply_head c.args.unique c.len-size.result in (
      c.put_all.ensures.items
          ∙ ap (λ b. b ++ said) (c.in_ok-put_data_head.ensures.0 ∙ ap (λ b. b ++ head) c.in_ok-make_room.ensures.0)
          ∙ append_assoc first head said
          ∙ ap (λ n. first ++ (reply_head c.args.unique n ++ said)) c.len-size.ensures.value,
      tt,
      tt,
      omega (arith, c.in_ok-make_room.ensures.3, c.in_ok-put_data_head.ensures.3, c.put_all.ensures.room),
    )
