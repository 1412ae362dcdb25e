use Rattle.std.proofs.Common.{◌≡◌, ◌≤◌, ◌++◌}
use Rattle.fuse_answer.specs.Names.{said_before}
use Rattle.fuse_answer.proofs.names.put_all.Given as goal

-- the names before the position are appended, in no less room
abbrev pub invariant-loop-position : goal.invariant-loop-position
invariant-loop-position g l = record {
  items : l.out.items ≡ l.fn.out.items ++ said_before l.names l.position;
  room : l.fn.out.room ≤ l.out.room;
}
