use Rattle.std.proofs.Common.{◌≡◌, ◌-◌}
use Rattle.romfs_format.specs.Extended.{names_rise}
use Rattle.romfs_format.specs.Part.{attributes}
use Rattle.romfs_rows.proofs.list_check.names_rise.Given as goal

-- all rise if those left do
abbrev pub invariant-loop-at : goal.invariant-loop-at
invariant-loop-at l =
    names_rise (attributes l.lists l.first (l.end - l.first)) ≡ names_rise (attributes l.lists l.at (l.end - l.at))
