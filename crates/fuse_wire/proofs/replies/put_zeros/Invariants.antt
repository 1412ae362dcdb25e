use Rattle.std.proofs.Common.{◌≡◌, ◌+◌, ◌-◌, ◌≤◌, take, vec_len, vec_capacity}
use Rattle.fuse_wire.proofs.replies.put_zeros.Given as goal

-- the earlier bytes are at the front, and there is room for what is left
abbrev pub invariant-loop-left : goal.invariant-loop-left
invariant-loop-left g l = record {
  before : take (vec_len l.fn.bytes) l.bytes.items ≡ l.fn.bytes.items;
  size : vec_len l.bytes + l.left ≡ vec_len l.fn.bytes + l.count;
  room : vec_len l.fn.bytes + l.count ≤ vec_capacity l.bytes;
  grown : vec_capacity l.fn.bytes ≤ vec_capacity l.bytes;
}

abbrev pub decreases-loop-left : goal.decreases-loop-left
decreases-loop-left g l = l.left - 1024
