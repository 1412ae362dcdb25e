use Rattle.std.proofs.Common.{◌≡◌, ◌∙◌, ap, ◌+◌, ◌*◌, ◌%◌, ◌^◌, arith, count_ones}
use Rattle.romfs_sets.specs.Sets.{rank, bits}
use Rattle.romfs_sets.proofs.Bits.{slots_of, word_read}
use Rattle.romfs_sets.proofs.Ranks.{counted}
use Rattle.romfs_sets.proofs.slot_set.SlotSet.count_in_word.Goals as goal

pub returns-clause-count : goal.returns-clause-count
returns-clause-count g c =
    let words = c.self.inside.words.items in
    let slots = c.self.inside.slots in
    let n = slots_of slots words _ c.self.view_is in
    let r = c.requires in
    let i = c.self.invariant.0 in
    let w = word_read words c.args.word c.index.result.now (omega arith) c.index.ensures in
    let s = c.index.type_inv in
    let m : c.index.result.now % 2 ^ 64 ≡ c.index.result.now = omega arith in
    let k = counted slots words c.args.word c.index.result.now w 64 (omega arith) (omega arith) in
    rw (← c.self.view_is) (k ∙ ap (λ x. rank (bits slots words) (c.args.word * 64) + count_ones x) m)
