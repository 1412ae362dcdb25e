use Rattle.std.proofs.Common.{◌∙◌, refl}
use Rattle.node_reader.proofs.NodeLists.{some_has}
use Rattle.node_reader.proofs.table.Table.has_xattrs.Goals as goal

pub returns : goal.returns
returns g c = c.has_some.ensures
    ∙ rw (← c.self.view_is) (some_has _ _ _ _ c.self.invariant.table _ refl c.self.invariant.xattrs_are)
