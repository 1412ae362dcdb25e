use Rattle.std.proofs.Common.{◌≡◌}
use Rattle.romfs_format.specs.Trailer.{first_rows}
use Rattle.romfs_rows.proofs.rows.rows_in.Given as goal

-- the first rows are kept
abbrev pub invariant-loop-number : goal.invariant-loop-number
invariant-loop-number g l = l.rows.items ≡ first_rows l.trailer l.number
