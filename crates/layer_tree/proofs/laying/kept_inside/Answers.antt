use Rattle.layer_tree.proofs.Stepping.{with_children}
use Rattle.layer_tree.proofs.laying.kept_inside.Goals as goal

pub returns : goal.returns
returns g c =
    rw (c.new.ensures, c.into_parts-name.ensures.name, c.into_parts-name.ensures.value)
    (with_children c.args.low c.args.mark.now _ _ c.into_parts-name.ensures.below c.in_ok-left.ensures)
