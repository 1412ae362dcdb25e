use Rattle.std.proofs.Common.{◌≡◌, ◌+◌, ◌-◌, ◌≤◌, length}
use Rattle.romfs_format.specs.Extended.{names_of}
use Rattle.romfs_format.specs.Part.{attributes}
use Rattle.romfs_rows.proofs.list_check.names_fit.Given as goal

-- the length of all is that of those so far and of those left
abbrev pub invariant-loop-at : goal.invariant-loop-at
invariant-loop-at l = record {
  whole : length (names_of (attributes l.lists l.first (l.end - l.first)))
      ≡ l.len + length (names_of (attributes l.lists l.at (l.end - l.at)));
  fits : l.len ≤ 65536;
}
