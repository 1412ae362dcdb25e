use Rattle.layer_paths.specs.Rows.{spread}
use Rattle.layer_paths.proofs.moving.pass_with.Goals as goal

pub returns : goal.returns
returns g c = record {
  first = record {
    name = c.take_first-name.result.0;
    value = c.take_first-name.result.1;
    below = spread c.take_first-name.result.2.items;
  };
  left = c.take_first-name.ensures.first;
  added = c.in_ok-add_last.ensures;
}
