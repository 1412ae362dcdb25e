use Rattle.layer_paths.proofs.Merging.{branch_laid}
use Rattle.layer_paths.proofs.laying.cover.Goals as goal

pub returns : goal.returns
returns g c =
    rw (
      c.new.ensures,
      c.into_parts-name.ensures.name,
      c.lay.ensures,
      c.into_parts-name.ensures.value,
      c.into_parts-below.ensures.value,
    ) (branch_laid g.T.Lay.laid c.args.low c.args.high
    c.into_parts-below.result.2.items c.into_parts-name.result.2.items c.in_ok-children.children.items
    c.into_parts-below.ensures.below c.into_parts-name.ensures.below c.in_ok-children.ensures)
