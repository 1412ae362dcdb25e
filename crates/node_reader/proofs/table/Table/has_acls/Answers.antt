use Rattle.std.proofs.Common.{◌∙◌, refl}
use Rattle.node_reader.proofs.NodeLists.{acls_have}
use Rattle.node_reader.proofs.table.Table.has_acls.Goals as goal

pub returns : goal.returns
returns g c = c.has_acls.ensures
    ∙ rw (← c.self.view_is) (acls_have _ _ _ _ c.self.invariant.table _ refl c.self.invariant.xattrs_are)
