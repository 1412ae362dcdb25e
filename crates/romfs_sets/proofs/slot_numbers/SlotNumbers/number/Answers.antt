use Rattle.std.proofs.Common.{◌≡◌, ◌∙◌, ap, ◌/◌, ◌<◌, length, get_or, arith}
use Rattle.std.proofs.lemmas.Grind.{get_or_default_zero}
use Rattle.romfs_sets.proofs.Ranks.{rank_few}
use Rattle.romfs_sets.proofs.slot_numbers.SlotNumbers.number.Goals as goal

pub overflow_add-result : goal.overflow_add-result
overflow_add-result g c =
    let set = c.self.inside.set.now in
    let before = c.self.inside.before.items in
    let slot = c.args.slot in
    let n : length set ≡ length c.args.self.now = ap length c.self.view_is in
    let small = c.requires.small in
    let inside = c.requires.slot in
    let s = c.self.invariant.sized in
    let fits : slot / 64 < length before = omega arith in
    let e : c.index.result.now ≡ get_or before (slot / 64) 0 = c.index.ensures
    ∙ get_or_default_zero before (slot / 64) c.index.result.now fits in
    let counts = c.self.invariant.each (slot / 64) fits in
    let few = rank_few set slot in
    let count = c.count_before.ensures.count in
    omega arith
