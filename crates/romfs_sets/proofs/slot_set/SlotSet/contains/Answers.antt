use Rattle.std.proofs.Common.{◌∙◌, sym, ap, ◌%◌, ◌==◌, get_or, false}
use Rattle.std.proofs.lemmas.Nat.Bits.{shr_and_one}
use Rattle.romfs_sets.proofs.Bits.{word_of_slot, bits_at}
use Rattle.romfs_sets.proofs.slot_set.SlotSet.contains.Goals as goal

pub returns : goal.returns
returns g c =
    let words = c.self.inside.words.items in
    let (within, read) = word_of_slot _ words _ c.args.slot _ c.self.view_is c.self.invariant.0 c.requires c.index.ensures in
    ap (λ x. x == 1) (shr_and_one c.index.result.now (c.args.slot % 64))
    ∙ rw read (sym (bits_at c.self.inside.slots words c.args.slot within))
    ∙ ap (λ x. get_or x c.args.slot false) c.self.view_is
