use Rattle.std.proofs.Common.{◌≡◌, ◌++◌, ◌≤◌, vec_capacity}
use Rattle.fuse_answer.specs.Puts.{AreSmall}
use Rattle.fuse_answer.proofs.Moving.{given}
use Rattle.fuse_answer.proofs.move_list.grow_rows.Given as goal

-- what the rows before the index give is appended, in no less room
abbrev pub invariant-loop-index : goal.invariant-loop-index
invariant-loop-index g l = record {
  so_far : l.into.items ≡ l.fn.into.items ++ given l.rows l.index;
  room : vec_capacity l.fn.into ≤ vec_capacity l.into;
  small : AreSmall l.fn.into.items → AreSmall l.into.items;
}
