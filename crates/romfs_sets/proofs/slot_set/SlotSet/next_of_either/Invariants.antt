use Rattle.std.proofs.Common.{◌≡◌, ◌-◌, ◌≤◌, ◌<◌, ℕ, false, length}
use Rattle.romfs_sets.specs.Sets.{is_bit}
use Rattle.romfs_sets.proofs.Bits.{joined}
use Rattle.romfs_sets.proofs.slot_set.SlotSet.next_of_either.Given as goal

-- no slot from the first one asked for up to this one is in the union
abbrev pub invariant-loop-slot : goal.invariant-loop-slot
invariant-loop-slot g l = record {
  low : l.initial.slot ≤ l.slot;
  clear : (k : ℕ) → l.initial.slot ≤ k → k < l.slot
      → is_bit (joined (length l.self-inside.words.items) l.self-inside.words.items l.other-inside.words.items) k
      ≡ false;
}

-- the slots from this one on
abbrev pub decreases-loop-slot : goal.decreases-loop-slot
decreases-loop-slot g l = l.self-inside.slots - l.slot
