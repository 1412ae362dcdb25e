use Rattle.node_reader.proofs.Stamps.{placed_row}
use Rattle.node_reader.proofs.attributes.row_of.Goals as goal

pub returns : goal.returns
returns g c = placed_row c.args.rows.now c.args.place c.position.result c.row_at.result c.position.ensures.value c.row_at.ensures
