use Rattle.std.proofs.Common.{◌≡◌, ◌∙◌, sym, ap, ◌+◌, ◌-◌, ◌++◌, length, take, arith}
use Rattle.std.proofs.lemmas.List.{take-take, length-take}
use Rattle.std.specs.Option.{option_copied}
use Rattle.fuse_wire.specs.Structures.{dirent_size, zeros}
use Rattle.fuse_wire.proofs.Padding.{cut_name}
use Rattle.fuse_wire.proofs.Sizes.{plus_row_is}
use Rattle.fuse_wire.proofs.put.set_direntplus.Goals as goal

pub returns-clause-row : goal.returns-clause-row
returns-clause-row c =
    let row = c.args.row.now in
    let name = row.name.now in
    let n = dirent_size (length name) - (24 + length name) in
    let head = take c.entry_or_zeros-at.result c.entry_or_zeros-at.new.fields in
    let front = take c.dirent_front-at.result c.dirent_front-at.new.fields in
    let entry_end = c.entry_or_zeros-at.ensures.end in
    let front_end = c.dirent_front-at.ensures.end in
    let name_end = c.set_bytes-at.ensures.end in
    let zeros_end = c.set_zeros.ensures.end in
    let entry_size = c.entry_or_zeros-at.ensures.size in
    let front_size = c.dirent_front-at.ensures.size in
    let row_size = c.dirent_size.ensures in
    let room = c.requires.room in
    let short = c.requires.short in
    let front_len = length-take c.dirent_front-at.result c.dirent_front-at.new.fields in
    let end = c.entry_or_zeros-at.result + c.dirent_size.result in
    let all : take c.set_zeros.result c.set_zeros.new.fields ≡ front ++ (name ++ zeros (22 - length name)) ++ zeros 2 =
    c.set_zeros.ensures.fields
    ∙ ap (λ v. v ++ zeros 2) (c.set_bytes-at.ensures.fields ∙ ap (λ v. front ++ v) c.requires.padded) in
    let place : end ≡ length front + (length name + n) = omega arith in
    sym (take-take end c.set_zeros.result c.set_zeros.new.fields (omega arith))
    ∙ ap (take end) all
    ∙ ap (λ k. take k (front ++ (name ++ zeros (22 - length name)) ++ zeros 2)) place
    ∙ cut_name front name n short (omega arith)
    ∙ plus_row_is (option_copied c.args.entry) row (take c.args.at c.args.bytes.now) head front c.entry_or_zeros-at.ensures.fields
    c.dirent_front-at.ensures.fields
