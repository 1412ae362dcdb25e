use Rattle.std.proofs.Common.{◌∷◌, ◌∙◌, ap, drop}
use Rattle.std.specs.Prelude.{slice_set}
use Rattle.layer_paths.specs.Rows.{Subtree}
use Rattle.layer_paths.proofs.Merging.{front_is}
use Rattle.layer_paths.proofs.moving.take_children.Goals as goal

pub returns : goal.returns
returns g c =
    let found = rw c.unwrap-first.ensures at c.front_mut.ensures.value in
    let was = front_is c.args.from.now.items c.unwrap-first.result.now c.requires found in
    record {
      first = c.unwrap-first.result.now;
      rest = drop 1 c.args.from.now.items;
      was = was;
      left = ap (λ xs. slice_set xs 0 c.take_children.new.self) was
          ∙ ap (λ (s : Subtree g.row.T.Denot). s ∷ drop 1 c.args.from.now.items) c.take_children.ensures.left;
      below = c.take_children.ensures.below;
      forest = c.take_children.ensures.forest;
    }
