use Rattle.std.proofs.Common.{◌≡◌, ◌*◌, length}
use Rattle.romfs_sets.specs.Sets.{rank}
use Rattle.romfs_sets.proofs.Ranks.{AreCountsSoFar}
use Rattle.romfs_sets.proofs.slot_numbers.SlotNumbers.of.Given as goal

-- the words before this one have their counts, and `count` is the next
abbrev pub invariant-loop-word : goal.invariant-loop-word
invariant-loop-word g l = record {
  sized : length l.before.items ≡ l.word;
  count : l.count ≡ rank l.set (l.word * 64);
  so_far : AreCountsSoFar l.set l.before.items;
}
