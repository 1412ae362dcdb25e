use Rattle.std.proofs.Common.{◌∙◌, ap, ◌+◌, ◌-◌}
use Rattle.devices.specs.Tree.{tree_blocks}
use Rattle.romfs_seal.proofs.Tops.{tree_none, tree_some}
use Rattle.romfs_seal.proofs.opening.+tree_blocks.Goals as goal

pub returns-then-levels-eq0-clause-count : goal.returns-then-levels-eq0-clause-count
returns-then-levels-eq0-clause-count t c = tree_none c.args.algorithm c.args.levels c.args.blocks c.if-levels-eq0.true

pub returns-clause-count : goal.returns-clause-count
returns-clause-count t c =
    ap (λ k. k + c.blocks_above-upper.result) c.tree_blocks.ensures.count
    ∙ ap (λ k. tree_blocks c.args.algorithm (c.args.levels - 1) k + k) c.blocks_above-upper.ensures.count
    ∙ tree_some c.args.algorithm c.args.levels c.args.blocks c.if-levels-eq0.false
