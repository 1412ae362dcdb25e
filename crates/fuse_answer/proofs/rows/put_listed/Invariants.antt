use Rattle.std.proofs.Common.{◌≡◌, ◌++◌, ◌+◌, ◌-◌, ◌≤◌, length}
use Rattle.fuse_answer.specs.Adding.{AddsGiven}
use Rattle.fuse_answer.proofs.Writing.{written}
use Rattle.fuse_answer.proofs.rows.put_listed.Given as goal

-- the rows before the index are written within the limit, and added
abbrev pub invariant-loop-index : goal.invariant-loop-index
invariant-loop-index g l = record {
  first : l.rows.from ≤ l.index;
  there : l.index ≤ 2 + length l.rows.children.now;
  so_far : l.out.items ≡ l.fn.out.items ++ written l.table l.rows l.index;
  limit : length l.out.items ≤ l.most;
  grown : l.fn.out.room ≤ l.out.room;
  given : AddsGiven l.rows l.rows.from l.index l.fn.balances l.balances;
}

-- how many rows are left
abbrev pub decreases-loop-index : goal.decreases-loop-index
decreases-loop-index g l = 2 + length l.rows.children.now - l.index
