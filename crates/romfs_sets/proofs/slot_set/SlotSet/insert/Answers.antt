use Rattle.std.proofs.Common.{◌∙◌, ap, set, true}
use Rattle.romfs_sets.proofs.Bits.{word_of_slot, bits_set}
use Rattle.romfs_sets.proofs.slot_set.SlotSet.insert.Goals as goal

pub returns : goal.returns
returns g c =
    let words = c.self.inside.words.items in
    let (within, read) =
    word_of_slot _ words _ c.args.slot _ c.self.view_is c.self.invariant.0 c.requires c.index_mut.ensures.value in
    bits_set c.self.inside.slots words c.args.slot c.index_mut.result.now c.self.invariant.0 within read
    ∙ ap (λ x. set x c.args.slot true) c.self.view_is
