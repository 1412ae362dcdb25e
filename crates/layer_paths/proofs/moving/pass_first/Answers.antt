use Rattle.layer_paths.proofs.moving.pass_first.Goals as goal

pub returns : goal.returns
returns g c = record {
  first = c.unwrap-first.result;
  left = rw c.unwrap-first.ensures at c.pop_front.ensures.items;
  added = c.in_ok-push.ensures.items;
}
