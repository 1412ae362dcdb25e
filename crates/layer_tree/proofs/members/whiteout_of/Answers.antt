use Rattle.std.proofs.Common.{◌∙◌, ap, sym, ◌++◌}
use Rattle.std.proofs.lemmas.List.{take_rest}
use Rattle.stack_model.specs.Stack.{marker}
use Rattle.layer_tree.proofs.ByName.{marker_rest}
use Rattle.layer_tree.proofs.members.whiteout_of.Goals as goal

pub returns-then-is_marker : goal.returns-then-is_marker
returns-then-is_marker c = marker_rest c.args.name.now (sym c.if-is_marker.ensures)
    ∙ ap (λ rest. marker ++ rest) (sym (take_rest c.args.name.now 4))
