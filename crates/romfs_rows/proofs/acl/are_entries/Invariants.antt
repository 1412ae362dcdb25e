use Rattle.std.proofs.Common.{◌≡◌}
use Rattle.std.specs.Prelude.{true}
use Rattle.romfs_format.specs.Below.{holds_below}
use Rattle.romfs_format.specs.Acls.{is_acl_entry}
use Rattle.romfs_rows.proofs.acl.are_entries.Given as goal

-- the entries so far are right
abbrev pub invariant-loop-number : goal.invariant-loop-number
invariant-loop-number l = holds_below l.number (is_acl_entry l.value) ≡ true
