use Rattle.node_reader.proofs.Nodes.{found, rows_are, rows_none}
use Rattle.node_reader.proofs.table.Table.rows.Goals as goal

pub rows_of-requires-clause-start : goal.rows_of-requires-clause-start
rows_of-requires-clause-start g c = (found _ _ _ _ c.self.invariant.table c.args.number _
    (rw c.deref.ensures.value at c.in-Some.ensures)).holds.start

pub rows_of-requires-clause-end : goal.rows_of-requires-clause-end
rows_of-requires-clause-end g c = (found _ _ _ _ c.self.invariant.table c.args.number _
    (rw c.deref.ensures.value at c.in-Some.ensures)).holds.end

pub returns-in-Some : goal.returns-in-Some
returns-in-Some g c = rw (c.rows_of.ensures, ← c.self.view_is)
    (rows_are _ _ _ _ c.self.invariant.table c.args.number _
    (rw c.deref.ensures.value at c.in-Some.ensures))

pub returns-in-None : goal.returns-in-None
returns-in-None g c = rw (← c.self.view_is) (rows_none _ _ _ _ c.self.invariant.table c.args.number
    (rw c.deref.ensures.value at c.in-None.ensures))
