use Rattle.std.proofs.Common.{subst, arith, ◌∙◌, ◌+◌, ◌/◌}
use Rattle.romfs_held.specs.Blocks.{IsRank}
use Rattle.romfs_held.proofs.Rows.{cut_is}
use Rattle.romfs_held.proofs.kept.cut.Goals as goal

pub returns : goal.returns
returns g c = rw (c.truncate.ensures.items, c.truncate-2.ensures.items)
    (cut_is c.args.blocks.now.items c.args.bytes.now.items c.requires ((c.from.result + 15) / 16) c.rank-count.result
    (subst (λ b. IsRank b ((c.from.result + 15) / 16) c.rank-count.result) (c.beside.ensures ∙ c.deref.ensures.value) c.rank-count.ensures)
    c.args.size (omega (arith, c.from.ensures)))
