use Rattle.std.proofs.Common.{◌∙◌, sym}
use Rattle.node_reader.proofs.Stamps.{no_stamps, nodes_stamped}
use Rattle.node_reader.proofs.stamped_rows.StampedRows.of.Goals as goal

pub returns-then-not-have_rows-clause-stamps : goal.returns-then-not-have_rows-clause-stamps
returns-then-not-have_rows-clause-stamps g c =
    let none = sym c.if-not-have_rows.ensures in
    rw c.new.ensures.items
    (no_stamps c.args.rows.now.items c.args.owner c.args.nodes.now (rw c.deref.ensures.value at none))

pub returns-clause-stamps : goal.returns-clause-stamps
returns-clause-stamps g c =
    let some = sym c.have_rows.ensures ∙ c.if-not-have_rows.false in
    nodes_stamped c.args.rows.now.items c.args.owner c.args.nodes.now c.in_ok-stamps.stamps.items
    (rw c.deref-2.ensures.value at c.in_ok-stamps.ensures) (rw c.deref.ensures.value at some)
