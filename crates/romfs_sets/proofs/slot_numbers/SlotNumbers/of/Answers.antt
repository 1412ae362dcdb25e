use Rattle.std.proofs.Common.{◌+◌, ◌*◌, arith, sym}
use Rattle.romfs_sets.proofs.Ranks.{rank_zero, rank_few, no_counts}
use Rattle.romfs_sets.proofs.slot_numbers.SlotNumbers.of.Goals as goal

pub loop-word-init : goal.loop-word-init
loop-word-init g c = rw c.in_ok-before.ensures.items (record {
  sized = omega arith;
  count = sym (rank_zero c.args.set.now);
  so_far = no_counts c.args.set.now;
})

pub overflow_add-count : goal.overflow_add-count
overflow_add-count g c =
    let set = c.args.set.now in
    let n = c.requires in
    let t = c.loop-word-test.true in
    let few = rank_few set (c.loop-word.word * 64 + 64) in
    let more = c.count_in_word-count.ensures.count in
    let count = c.loop-word.invariant.count in
    let words = c.slots-words.ensures in
    omega arith
