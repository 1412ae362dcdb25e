use Rattle.std.proofs.Common.{◌≡◌, ◌∙◌, ◌⊎◌, subst, arith}
use Rattle.romfs_format.specs.declared.head.Kind.TheVariants.{Regular, SymLink}
use Rattle.romfs_format.specs.Heads.{head_of}
use Rattle.romfs_reader.proofs.Readings.{given_data}
use Rattle.romfs_reader.proofs.Short.{part_of_data, part_of_none}
use Rattle.romfs_reader.proofs.parts.said_part.Goals as goal

pub overflow_cast-result : goal.overflow_cast-result
overflow_cast-result c =
    let a = c.args.image.now in
    let kind = subst (λ k. (k ≡ Regular) ⊎ (k ≡ SymLink)) c.requires.kind c.in-Regular.is in
    let g = (given_data a c.requires.image (head_of a c.args.offset) c.requires.given kind).0 in
    let s = c.requires.image.small in
    rw (c.padded.ensures.value, c.requires.name) (omega arith)

pub returns-in-Regular : goal.returns-in-Regular
returns-in-Regular c =
    let a = c.args.image.now in
    let kind = subst (λ k. (k ≡ Regular) ⊎ (k ≡ SymLink)) c.requires.kind c.in-Regular.is in
    rw (c.padded.ensures.value, c.requires.name, c.requires.size)
    (part_of_data a c.requires.image (head_of a c.args.offset) c.requires.given kind)

pub returns-in_default : goal.returns-in_default
returns-in_default c =
    let a = c.args.image.now in
    part_of_none a c.requires.image (head_of a c.args.offset) c.requires.given
    (λ e. c.in_default.not-Regular (c.requires.kind ∙ e)) (λ e. c.in_default.not-SymLink (c.requires.kind ∙ e))
