use Rattle.std.proofs.Common.{◌≡◌, ◌-◌, ◌≤◌}
use Rattle.romfs_format.specs.Extended.{value_of}
use Rattle.romfs_format.specs.Part.{attributes}
use Rattle.romfs_rows.proofs.value_search.find.Given as goal

-- the value is that among those left
abbrev pub invariant-loop-low : goal.invariant-loop-low
invariant-loop-low l = record {
  after : l.first ≤ l.low;
  before : l.high ≤ l.end;
  same : value_of l.name (attributes l.lists l.first (l.end - l.first)) ≡ value_of l.name (attributes l.lists l.low (l.high - l.low));
}

-- each turn leaves fewer between low and high
abbrev pub decreases-loop-low : goal.decreases-loop-low
decreases-loop-low l = l.high - l.low
