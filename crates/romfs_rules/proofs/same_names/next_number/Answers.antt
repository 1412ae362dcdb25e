use Rattle.std.proofs.Common.{ap, ◌∙◌, refl}
use Rattle.romfs_format.specs.Fields.{cleared}
use Rattle.romfs_rules.proofs.SameNaming.{next_number}
use Rattle.romfs_rules.proofs.same_names.next_number.Goals as goal

pub returns-then-is_inside : goal.returns-then-is_inside
returns-then-is_inside g c =
    rw c.number.ensures (next_number c.args.volume.now.bytes.now c.requires.numbered c.requires.at c.cleared-after.result
    (c.cleared-after.ensures ∙ ap cleared c.word.ensures) c.if-after-ne0.true (c.if-is_inside.ensures.0 refl))
