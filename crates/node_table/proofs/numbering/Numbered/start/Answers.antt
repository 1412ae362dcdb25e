use Rattle.node_table.proofs.Counting.{apart_told, start_apart}
use Rattle.node_table.proofs.numbering.Numbered.start.Goals as goal

pub returns-in-Apart : goal.returns-in-Apart
returns-in-Apart g c = start_apart c.in-Apart.field-0 (apart_told _ c.in-Apart.is c.self.view_is) c.args.at c.requires
