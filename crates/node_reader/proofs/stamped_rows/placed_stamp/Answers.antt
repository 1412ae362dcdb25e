use Rattle.std.proofs.Common.{◌∙◌, ap}
use Rattle.node_reader.specs.Held.{stamp_by}
use Rattle.node_reader.proofs.stamped_rows.placed_stamp.Goals as goal

pub returns : goal.returns
returns g c = c.of.ensures ∙ c.stamp_by.ensures ∙ ap (λ row. stamp_by row c.args.owner) c.row_of-row.ensures
