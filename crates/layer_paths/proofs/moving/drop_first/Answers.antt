use Rattle.layer_paths.specs.Rows.{spread}
use Rattle.layer_paths.proofs.moving.drop_first.Goals as goal

pub returns : goal.returns
returns g c = record {
  first = record {
    name = c.take_first.result.0;
    value = c.take_first.result.1;
    below = spread c.take_first.result.2.items;
  };
  left = c.take_first.ensures.first;
}
