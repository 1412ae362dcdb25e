use Rattle.std.proofs.Common.{[], take, subst}
use Rattle.std.specs.Option.{option_copied}
use Rattle.fuse_wire.specs.Appends.{Appends}
use Rattle.fuse_wire.proofs.Sizes.{plus_row_is}
use Rattle.fuse_wire.proofs.put.put_direntplus.Goals as goal

pub returns : goal.returns
returns g c =
    let head = take c.entry_or_zeros-at.result c.entry_or_zeros-at.new.fields in
    let front = take c.dirent_front-end.result c.dirent_front-end.new.fields in
    let bytes = plus_row_is (option_copied c.args.entry) c.args.row.now [] head front c.entry_or_zeros-at.ensures.fields
    c.dirent_front-end.ensures.fields in
    subst (λ v. Appends c.put_row.result c.args.out.now c.put_row.new.out v) bytes c.put_row.ensures
