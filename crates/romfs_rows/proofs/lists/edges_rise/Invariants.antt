use Rattle.std.proofs.Common.{◌≡◌, ◌+◌}
use Rattle.std.specs.Prelude.{true, nat_le}
use Rattle.romfs_format.specs.Below.{holds_below}
use Rattle.romfs_format.specs.Part.{edge}
use Rattle.romfs_rows.proofs.lists.edges_rise.Given as goal

-- those so far rise
abbrev pub invariant-loop-number : goal.invariant-loop-number
invariant-loop-number l = holds_below l.number (λ k. nat_le (edge l.bytes k) (edge l.bytes (k + 1))) ≡ true
