use lib.Bits.{and_mask}
use lib.Pow.{pow-lt}
use Rattle.std.proofs.Common.{bit_and, ◌-◌, ◌≡◌, ◌∙◌, sym, ap, ◌+◌, ◌*◌, ◌/◌, ◌%◌, ◌^◌, ◌<◌, arith, count_ones}
use Rattle.romfs_sets.specs.Sets.{rank, bits}
use Rattle.romfs_sets.proofs.Bits.{slots_of, word_read}
use Rattle.romfs_sets.proofs.Ranks.{counted}
use Rattle.romfs_sets.proofs.slot_set.SlotSet.count_before.Goals as goal

pub returns-clause-count : goal.returns-clause-count
returns-clause-count g c =
    let words = c.self.inside.words.items in
    let slots = c.self.inside.slots in
    let slot = c.args.slot in
    let word = c.index.result.now in
    let n = slots_of slots words _ c.self.view_is in
    let r = c.requires in
    let i = c.self.invariant.2 in
    let w = word_read words (slot / 64) word (omega arith) c.index.ensures in
    let k = counted slots words (slot / 64) word w (slot % 64) (omega arith) (omega arith) in
    let e : slot / 64 * 64 + slot % 64 ≡ slot = omega arith in
    let small : 2 ^ (slot % 64) < 2 ^ 64 = pow-lt {j = 64} (omega arith) in
    let one : 1 * 2 ^ (slot % 64) % 2 ^ 64 ≡ 2 ^ (slot % 64) = omega arith in
    let mask : count_ones (bit_and word (1 * 2 ^ (slot % 64) % 2 ^ 64 - 1)) ≡ count_ones
    (word % 2 ^ (slot % 64)) = ap (λ x. count_ones (bit_and word (x - 1))) one
    ∙ ap count_ones (and_mask word (slot % 64)) in
    rw (← c.self.view_is) (ap (rank (bits slots words)) (sym e) ∙ k ∙ ap (λ x. rank (bits slots words) (slot / 64 * 64) + x) (sym mask))
