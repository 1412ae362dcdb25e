use Rattle.std.proofs.Common.{◌+◌, ◌<◌, ◌^◌, length, sym, subst}
use Rattle.romfs_reader.proofs.Short.{part_short}
use Rattle.romfs_reader.proofs.parts.bytes_in.Goals as goal

pub returns-clause-short : goal.returns-clause-short
returns-clause-short c = subst (λ xs. 16 + length xs < 2 ^ 32) (sym c.bytes_at.ensures) (part_short c.args.image.now c.args.part c.requires)
