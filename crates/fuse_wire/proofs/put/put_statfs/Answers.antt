use Rattle.std.proofs.Common.{ap, length, arith}
use Rattle.fuse_wire.specs.Structures.{statfs_out}
use Rattle.fuse_wire.proofs.Heads.{reply_set}
use Rattle.fuse_wire.proofs.Sizes.{length-statfs_out}
use Rattle.fuse_wire.proofs.put.put_statfs.Goals as goal

pub returns : goal.returns
returns g c =
    let inside = c.out.inside in
    let kept = ap length c.as_mut_slice-bytes.ensures.value in
    let head_size = c.head-at.ensures.size in
    let size = c.statfs_out-out-inside.ensures.size in
    let room = ap (λ f. f.room) c.out.view_is in (
      reply_set c.args.unique 80 c.statfs_out-out-inside.result inside.bytes.len inside.len c.head-at.result
          (statfs_out c.args.blocks c.args.files) c.args.out.now.items c.stand.new.self.items inside.bytes.items
          c.as_mut_slice-bytes.result.now c.head-at.new.fields c.statfs_out-out-inside.new.fields c.in_ok-stand.ensures.room.0
          (ap (λ f. f.items) c.out.view_is) c.as_mut_slice-bytes.ensures.value c.head-at.ensures.fields
          c.statfs_out-out-inside.ensures.fields (omega arith) (omega arith) (length-statfs_out c.args.blocks c.args.files),
      tt,
      tt,
      omega (arith, room, c.in_ok-stand.ensures.room.3),
    )
