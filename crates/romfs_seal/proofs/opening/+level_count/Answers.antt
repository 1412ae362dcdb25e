use Rattle.std.proofs.Common.{◌≡◌, subst, suc, ◌+◌, arith}
use Rattle.devices.specs.Tree.{HasLevels}
use Rattle.romfs_seal.proofs.Fans.{levels_more, nine_levels}
use Rattle.romfs_seal.proofs.opening.+level_count.Goals as goal

pub returns-else-blocks-le1-clause-has : goal.returns-else-blocks-le1-clause-has
returns-else-blocks-le1-clause-has t c =
    let one : suc c.level_count.result ≡ 1 + c.level_count.result = omega arith in
    let many = c.if-blocks-le1.false in
    subst (HasLevels c.args.algorithm c.args.blocks) one
    (levels_more c.args.algorithm c.args.blocks c.level_count.result (omega arith)
    (subst (λ k. HasLevels c.args.algorithm k c.level_count.result) c.blocks_above.ensures.count c.level_count.ensures.has))

pub returns-else-blocks-le1-clause-few : goal.returns-else-blocks-le1-clause-few
returns-else-blocks-le1-clause-few t c =
    nine_levels c.args.algorithm c.args.blocks (1 + c.level_count.result) c.requires (returns-else-blocks-le1-clause-has t c)
