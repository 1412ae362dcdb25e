use Rattle.std.proofs.Common.{◌≡◌, ◌+◌}
use Rattle.std.specs.Prelude.{true, nat_lt}
use Rattle.romfs_format.specs.Below.{holds_below}
use Rattle.romfs_format.specs.Part.{first_of}
use Rattle.romfs_rows.proofs.lists.firsts_rise.Given as goal

-- those so far rise
abbrev pub invariant-loop-number : goal.invariant-loop-number
invariant-loop-number l = holds_below l.number (λ j. nat_lt (first_of l.bytes j) (first_of l.bytes (j + 1))) ≡ true
