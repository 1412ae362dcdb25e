use Rattle.std.proofs.Common.{◌≡◌, ◌-◌}
use Rattle.std.specs.List.{list_all}
use Rattle.romfs_format.specs.Extended.{is_extended}
use Rattle.romfs_format.specs.Part.{attributes}
use Rattle.romfs_rows.proofs.list_check.are_extended.Given as goal

-- all are right if those left are
abbrev pub invariant-loop-at : goal.invariant-loop-at
invariant-loop-at l =
    list_all is_extended (attributes l.lists l.first (l.end - l.first)) ≡ list_all is_extended (attributes l.lists l.at (l.end - l.at))
