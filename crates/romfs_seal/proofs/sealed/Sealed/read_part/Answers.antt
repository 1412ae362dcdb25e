use Rattle.std.proofs.Common.{◌≡◌, ◌∙◌, sym, subst, ◌+◌, ◌*◌, ◌/◌, ◌%◌, length, take, drop, arith, ◌≤◌}
use Rattle.romfs_seal.proofs.Levels.{part-part}
use Rattle.devices.specs.Read.{AreRead}
use Rattle.romfs_seal.proofs.Parts.{part_of, read_inside}
use Rattle.std.proofs.lemmas.List.{length-take}
use Rattle.romfs_seal.proofs.sealed.Sealed.read_part.Goals as goal

pub returns-clause-ok : goal.returns-clause-ok
returns-clause-ok g c =
    let s = g.F.NamedFiles.seal c.args.self.now.files in
    let index = c.args.place / 4096 in
    let from = c.args.place % 4096 in
    let within = c.requires.within in
    let part = c.requires.part in
    let size = length-take (part_of s.size index) c.read_whole.new.block in
    let whole = c.read_whole.auto.block in
    let fits : length c.args.room.now + from ≤ part_of s.size index = omega arith in
    let copied : c.copy_part.new.room ≡ take (length c.args.room.now) (drop from (take (part_of s.size index) c.read_whole.new.block)) =
    c.copy_part.ensures ∙ sym (part-part c.read_whole.new.block (length c.args.room.now) from (part_of s.size index) fits) in
    let at : 4096 * index + from ≡ c.args.place = omega arith in
    subst (λ k. AreRead s k c.copy_part.new.room) at
    (subst (AreRead s (4096 * index + from)) (sym copied)
    (read_inside s (4096 * index) from (length c.args.room.now) (take (part_of s.size index) c.read_whole.new.block) (omega arith)
    c.in_ok-read_whole.ensures.ok))
