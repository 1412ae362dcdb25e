use Rattle.romfs_sets.proofs.Unions.{united_none, united_more, united_all}
use Rattle.romfs_sets.proofs.slot_set.SlotSet.add_all.Goals as goal

pub loop-slot-init : goal.loop-slot-init
loop-slot-init g c = united_none c.args.self.now c.args.other.now

pub loop-slot-preserved : goal.loop-slot-preserved
loop-slot-preserved g c =
    rw c.insert.ensures (united_more c.args.self.now c.args.other.now c.loop-slot.from c.in-Some.slot
    c.loop-slot.self c.requires c.loop-slot.invariant c.in-Some.ensures.next)

pub returns : goal.returns
returns g c = united_all c.args.self.now c.args.other.now c.loop-slot.from c.loop-slot.self c.loop-slot.invariant c.in_default.ensures.next
