use Rattle.std.proofs.Common.{◌≡◌}
use Rattle.romfs_rows.specs.Listed.{numbers_of}
use Rattle.romfs_rows.proofs.row_lists.numbers_in.Given as goal

-- the list has the numbers of the rows so far
abbrev pub invariant-loop-row : goal.invariant-loop-row
invariant-loop-row g l = l.numbers.items ≡ numbers_of l.part l.row
