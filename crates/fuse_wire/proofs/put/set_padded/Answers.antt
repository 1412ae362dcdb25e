use Rattle.std.proofs.Common.{◌≡◌, ◌∙◌, sym, ap, ◌+◌, ◌++◌, length, take, arith}
use Rattle.std.proofs.lemmas.List.{take-take, length-take}
use Rattle.fuse_wire.specs.Structures.{zeros}
use Rattle.fuse_wire.proofs.Padding.{cut_to}
use Rattle.fuse_wire.proofs.put.set_padded.Goals as goal

pub returns-clause-row : goal.returns-clause-row
unfolding zeros
returns-clause-row c =
    let front_set = c.set_bytes-at.ensures in
    let name_set = c.set_bytes-at-2.ensures in
    let zeros_set = c.set_zeros.ensures in
    let named = take c.set_bytes-at-2.result c.set_bytes-at-2.new.fields in
    let named_len = length-take c.set_bytes-at-2.result c.set_bytes-at-2.new.fields in
    let room = c.requires.room in
    let place : c.set_bytes-at-2.result + c.args.padding ≡ length named + c.args.padding = omega arith in
    sym (take-take (c.set_bytes-at-2.result + c.args.padding) c.set_zeros.result c.set_zeros.new.fields (omega arith))
    ∙ ap (take (c.set_bytes-at-2.result + c.args.padding)) zeros_set.fields
    ∙ ap (λ k. take k (named ++ zeros 8)) place
    ∙ cut_to named c.args.padding c.requires.few
    ∙ ap (λ v. v ++ zeros c.args.padding) (name_set.fields ∙ ap (λ v. v ++ c.args.name.now) front_set.fields)
