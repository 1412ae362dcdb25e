use Rattle.std.proofs.Common.{◌≡◌, ◌-◌, ◌≤◌, length, take, drop}
use Rattle.romfs_rows.proofs.read.copied.Given as goal

-- this many bytes are there
abbrev pub invariant-loop-room : goal.invariant-loop-room
invariant-loop-room g l = record {
  within : length l.bytes.items ≤ l.len;
  is : l.bytes.items ≡ take (length l.bytes.items) (drop l.at l.image);
}

-- how many are left
abbrev pub decreases-loop-room : goal.decreases-loop-room
decreases-loop-room g l = l.len - length l.bytes.items
