use Rattle.std.proofs.Common.{◌/◌, ◌+◌, arith}
use Rattle.romfs_sets.proofs.Bits.{bits_none}
use Rattle.romfs_sets.proofs.slot_set.SlotSet.new.Goals as goal

pub returns : goal.returns
returns g c = bits_none c.args.slots (c.args.slots / 64 + 1) c.in_ok-words.words.items (c.in_ok-words.ensures.items_if_clones_equal
    (λ y e. e)) (omega arith)
