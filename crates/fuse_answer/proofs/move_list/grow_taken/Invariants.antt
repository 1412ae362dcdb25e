use Rattle.std.proofs.Common.{◌≡◌, length, ◌+◌, ◌≤◌, vec_capacity}
use Rattle.fuse_wire.specs.Reads.{items_of}
use Rattle.fuse_answer.specs.Puts.{AreSmall}
use Rattle.fuse_answer.proofs.Moving.{AreTaken}
use Rattle.fuse_answer.proofs.move_list.grow_taken.Given as goal

-- what is taken back of this many items is appended, in no less room, and the rest is left
abbrev pub invariant-loop-taken : goal.invariant-loop-taken
invariant-loop-taken g l = record {
  count : l._taken + length (items_of l.rest) ≡ length (items_of l.fn.items);
  taken : AreTaken l.table (items_of l.fn.items) (items_of l.rest) l.fn.into.items l.into.items;
  room : vec_capacity l.fn.into ≤ vec_capacity l.into;
  small : AreSmall l.fn.into.items → AreSmall l.into.items;
}
