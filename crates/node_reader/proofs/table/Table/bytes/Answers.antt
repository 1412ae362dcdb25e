use Rattle.std.proofs.Common.{rules}
use Rattle.node_reader.proofs.Nodes.{data_is, data_none, image_there, part_lies}
use Rattle.node_reader.proofs.table.Table.bytes.Goals as goal

pub image_at-image-requires-clause-there : goal.image_at-image-requires-clause-there
image_at-image-requires-clause-there g c =
    let l = image_there _ _ _ _ c.self.invariant.table c.args.number _ (rw c.deref.ensures.value at c.in-Some.ensures) in
    search (rules, l)

pub part-requires-clause-part : goal.part-requires-clause-part
part-requires-clause-part g c = part_lies _ _ _ _ c.self.invariant.table c.args.number _ _
    (rw c.deref.ensures.value at c.in-Some.ensures) (rw c.deref-in-Some.ensures.value at c.image_at-image.ensures.bytes)

pub returns-in-Some-clause-value : goal.returns-in-Some-clause-value
returns-in-Some-clause-value g c = rw (c.part.ensures.value, ← c.self.view_is)
    (data_is _ _ _ _ c.self.invariant.table c.args.number _ _
    (rw c.deref.ensures.value at c.in-Some.ensures) (rw c.deref-in-Some.ensures.value at c.image_at-image.ensures.bytes))

pub returns-in-None-clause-value : goal.returns-in-None-clause-value
returns-in-None-clause-value g c = rw (← c.self.view_is) (data_none _ _ _ _ c.self.invariant.table c.args.number
    (rw c.deref.ensures.value at c.in-None.ensures))
