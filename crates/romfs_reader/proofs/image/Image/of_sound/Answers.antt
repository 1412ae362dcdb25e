use Rattle.std.proofs.Common.{arith, ◌<◌, ◌^◌}
use Rattle.romfs_format.specs.Fields.{word}
use Rattle.romfs_held.specs.Images.{held_bytes}
use Rattle.romfs_reader.proofs.Whole.{bounds, checked}
use Rattle.romfs_reader.proofs.image.Image.of_sound.Goals as goal

pub accessible-held-requires-clause-long : goal.accessible-held-requires-clause-long
accessible-held-requires-clause-long g c = (bounds (held_bytes c.args.held) c.requires).0

pub accessible-held-requires-clause-within : goal.accessible-held-requires-clause-within
accessible-held-requires-clause-within g c = (bounds (held_bytes c.args.held) c.requires).2

pub root_of-root-requires-clause-long : goal.root_of-root-requires-clause-long
root_of-root-requires-clause-long g c =
    let full = (bounds (held_bytes c.args.held) c.requires).1 in
    let l = c.accessible-held.ensures.length in
    rw c.held.ensures (omega arith)

pub invariant_of-result : goal.invariant_of-result
invariant_of-result g c =
    let l = c.accessible-held.ensures.length in
    let n = c.accessible-held.ensures.small in
    let s : word (held_bytes c.args.held) 8 < 2 ^ 32 = omega arith in
    (rw c.accessible-held.ensures.value (checked (held_bytes c.args.held) c.requires s), rw (← c.held.ensures) c.root_of-root.ensures)
