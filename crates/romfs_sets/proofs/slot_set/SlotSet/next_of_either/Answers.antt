use Rattle.std.proofs.Common.{◌≡◌, ◌/◌, ◌<◌, List, ℕ, arith, refl, length, bit_or, rules}
use Rattle.romfs_sets.specs.Sets.{bits}
use Rattle.romfs_sets.proofs.Bits.{joined, joined_read, same_slots, small, rest, none_left, low_from, low_is, low_first, clear_more, next_in, none_in}
use Rattle.romfs_sets.proofs.slot_set.SlotSet.next_of_either.Given.{Over}
use Rattle.romfs_sets.proofs.slot_set.SlotSet.next_of_either.Goals.{In-loop-slot}
use Rattle.romfs_sets.proofs.slot_set.SlotSet.next_of_either.Goals as goal

-- in each turn both sets have a word for the slot, and the words of the other are over the slots of
-- this one
inside : (g : Over) (c : In-loop-slot g) → (c.loop-slot.slot / 64 < length c.self.inside.words.items)
    × (c.loop-slot.slot / 64 < length c.other.inside.words.items)
    × (bits c.self.inside.slots c.other.inside.words.items ≡ c.args.other.now)
inside g c =
    let same = same_slots _ _ _ _ _ _ c.self.view_is c.other.view_is c.requires in
    let s = same.0 in
    let i = c.self.invariant.0 in
    let o = c.other.invariant.0 in
    let t = c.loop-slot-test.true in
    (omega arith, omega arith, same.1)

-- the words of both sets together
abbrev both : List ℕ → List ℕ → List ℕ
both one other = joined (length one) one other

pub index-requires-in-loop-slot : goal.index-requires-in-loop-slot
index-requires-in-loop-slot g c =
    let at = inside g (goal.at.index-requires-in-loop-slot g c).In-loop-slot in
    let there = at.1 in
    let k = c.other.inside.words.ok in
    omega arith

pub returns-then-found-self : goal.returns-then-found-self
returns-then-found-self g c =
    let n = c.self.inside.slots in
    let one = c.self.inside.words.items in
    let other = c.other.inside.words.items in
    let slot = c.loop-slot.slot in
    let at = inside g (goal.at.returns-then-found-self g c).In-loop-slot in
    let word = joined_read one other _ _ _ at.0 at.1 c.index.ensures c.index-in-loop-slot.ensures in
    let some : 0 < rest (bit_or c.index.result.now c.index-in-loop-slot.result.now) slot = let t = c.if-word-ne0.true in search rules in
    let low = low_from (both one other) slot _ word some _ refl in
    let h = low.0 in
    let l = low.1 in
    let from = c.loop-slot.invariant.low in
    record {
      next = rw (← c.self.view_is, ← at.2)
          (next_in n (length one) one other c.self.invariant.0 c.args.from _ (omega arith) c.if-found-self.true
          (low_is (both one other) slot _ word some _ refl) (clear_more (both one other) c.args.from slot _
          c.loop-slot.invariant.clear (low_first (both one other) slot _ word some _ refl)));
      small = rw (← c.self.view_is) (small c.self.inside.slots c.self.inside.words.items c.self.invariant.1);
    }

pub returns-else-found-self : goal.returns-else-found-self
returns-else-found-self g c =
    let n = c.self.inside.slots in
    let one = c.self.inside.words.items in
    let other = c.other.inside.words.items in
    let slot = c.loop-slot.slot in
    let at = inside g (goal.at.returns-else-found-self g c).In-loop-slot in
    let word = joined_read one other _ _ _ at.0 at.1 c.index.ensures c.index-in-loop-slot.ensures in
    let some : 0 < rest (bit_or c.index.result.now c.index-in-loop-slot.result.now) slot = let t = c.if-word-ne0.true in search rules in
    let far = c.if-found-self.false in
    record {
      next = rw (← c.self.view_is, ← at.2)
          (none_in n (length one) one other c.self.invariant.0 c.args.from (λ k l m. clear_more (both one other) c.args.from slot _
          c.loop-slot.invariant.clear (low_first (both one other) slot _ word some _ refl) k l (omega arith)));
      small = rw (← c.self.view_is) (small c.self.inside.slots c.self.inside.words.items c.self.invariant.1);
    }

pub loop-slot-preserved : goal.loop-slot-preserved
loop-slot-preserved g c =
    let one = c.self.inside.words.items in
    let other = c.other.inside.words.items in
    let slot = c.loop-slot.slot in
    let at = inside g (goal.at.loop-slot-preserved g c).In-loop-slot in
    let word = joined_read one other _ _ _ at.0 at.1 c.index.ensures c.index-in-loop-slot.ensures in
    let low = c.loop-slot.invariant.low in
    record {
      low = omega arith;
      clear = clear_more (both one other) c.args.from slot _ c.loop-slot.invariant.clear
          (none_left (both one other) slot _ word c.if-word-ne0.false);
    }

pub returns : goal.returns
returns g c =
    let n = c.self.inside.slots in
    let one = c.self.inside.words.items in
    let other = c.other.inside.words.items in
    let same = same_slots n _ one other _ _ c.self.view_is c.other.view_is c.requires in
    let past = c.loop-slot-test.false in
    record {
      next = rw (← c.self.view_is, ← same.1)
          (none_in n (length one) one other c.self.invariant.0 c.args.from (λ k l m. c.loop-slot.invariant.clear k l (omega arith)));
      small = rw (← c.self.view_is) (small c.self.inside.slots c.self.inside.words.items c.self.invariant.1);
    }
