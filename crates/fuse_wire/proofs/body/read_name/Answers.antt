use Rattle.std.proofs.Common.{◌-◌, sym, length, arith}
use Rattle.fuse_wire.proofs.Names.{long, name_holds_zero, name_ends_none, name_ends_some, name_open_none, name_open_some}
use Rattle.fuse_wire.proofs.body.read_name.Goals as goal
use Rattle.fuse_wire.proofs.body.read_name.Goals.{in_default-via-in-Some+else-start-place, in_default-via-in_default}

pub slice_bounds-memrchr-end : goal.slice_bounds-memrchr-end
slice_bounds-memrchr-end c = sym (long c.args.message.now c.args.body.now c.args.start (length c.args.body.now - 1) c.requires
    (omega (arith, c.if-body-lt2.false)))

pub returns-in-Some : goal.returns-in-Some
returns-in-Some c = name_holds_zero c.args.message.now c.args.body.now c.args.start (length c.args.body.now - 1) c.requires
    (omega (arith, c.if-body-lt2.false)) c.in-Some.place c.in-Some.ensures c.if-start-place.true

pub returns-in_default : goal.returns-in_default
returns-in_default c = elim c.in_default.branch [
  | in_default-via-in-Some+else-start-place w ↦ name_open_some c.args.message.now c.args.body.now c.args.start
      (length c.args.body.now - 1) c.requires (omega (arith, c.if-body-lt2.false)) w.in-Some.place w.in-Some.ensures
      w.if-start-place.false c.if-body-end-ne0.true
  | in_default-via-in_default w ↦ name_open_none c.args.message.now c.args.body.now c.args.start (length c.args.body.now - 1) c.requires
      (omega (arith, c.if-body-lt2.false)) w.in_default.ensures c.if-body-end-ne0.true
]

pub returns-in_default-2 : goal.returns-in_default-2
returns-in_default-2 c = elim c.in_default.branch [
  | in_default-via-in-Some+else-start-place w ↦ name_ends_some c.args.message.now c.args.body.now c.args.start
      (length c.args.body.now - 1) c.requires (omega (arith, c.if-body-lt2.false)) w.in-Some.place w.in-Some.ensures
      w.if-start-place.false c.if-body-end-ne0.false (omega (arith, c.if-body-lt2.false))
  | in_default-via-in_default w ↦ name_ends_none c.args.message.now c.args.body.now c.args.start (length c.args.body.now - 1) c.requires
      (omega (arith, c.if-body-lt2.false)) w.in_default.ensures c.if-body-end-ne0.false (omega (arith, c.if-body-lt2.false))
]
