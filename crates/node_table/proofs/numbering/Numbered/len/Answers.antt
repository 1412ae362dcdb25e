use Rattle.node_table.proofs.Counting.{apart_told, length_apart}
use Rattle.node_table.proofs.numbering.Numbered.len.Goals as goal

pub returns-in-Apart : goal.returns-in-Apart
returns-in-Apart g c = length_apart c.in-Apart.count (apart_told _ c.in-Apart.is c.self.view_is)
