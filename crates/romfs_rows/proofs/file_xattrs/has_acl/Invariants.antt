use Rattle.std.proofs.Common.{◌≡◌, ◌-◌}
use Rattle.std.specs.List.{list_any}
use Rattle.romfs_format.specs.Extended.{is_acl_name}
use Rattle.romfs_format.specs.Part.{attributes}
use Rattle.romfs_rows.proofs.file_xattrs.has_acl.Given as goal

-- one is among all if one is among those left
abbrev pub invariant-loop-at : goal.invariant-loop-at
invariant-loop-at l =
    list_any (λ x. is_acl_name x.name) (attributes l.lists l.first (l.end - l.first))
    ≡ list_any (λ x. is_acl_name x.name) (attributes l.lists l.at (l.end - l.at))
