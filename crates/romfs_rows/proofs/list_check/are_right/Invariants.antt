use Rattle.std.proofs.Common.{◌≡◌, ℕ}
use Rattle.std.specs.Prelude.{true}
use Rattle.romfs_format.specs.Below.{holds_below}
use Rattle.romfs_format.specs.Extended.{is_list}
use Rattle.romfs_format.specs.Part.{list_of}
use Rattle.romfs_rows.proofs.list_check.are_right.Given as goal

-- the lists so far are right
abbrev pub invariant-loop-number : goal.invariant-loop-number
invariant-loop-number l = holds_below l.number (λ j. is_list (list_of l.lists j)) ≡ true
