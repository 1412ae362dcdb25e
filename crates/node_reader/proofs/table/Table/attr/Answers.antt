use Rattle.std.proofs.Common.{◌∙◌}
use Rattle.node_reader.proofs.Nodes.{attr_is, attr_none}
use Rattle.node_reader.proofs.table.Table.attr.Goals as goal

pub returns-in_err-brief : goal.returns-in_err-brief
returns-in_err-brief g c = c.from_residual.ensures
    ∙ rw (← c.self.view_is) (attr_none _ _ _ _ c.self.invariant.table c.args.number
    (rw (c.deref.ensures.value, c.self.invariant.briefs_are) at c.in_err-brief.ensures))

pub returns : goal.returns
returns g c = rw (c.attr_of.ensures, c.stamp-stamp.ensures, ← c.self.view_is) (attr_is _ _ _ _ c.self.invariant.table c.args.number _ _
    c.self.invariant.stamps_are (rw (c.deref.ensures.value, c.self.invariant.briefs_are) at c.in_ok-brief.ensures))
