use Rattle.std.proofs.Common.{◌≡◌}
use Rattle.std.specs.Prelude.{true}
use Rattle.romfs_format.specs.Below.{holds_below}
use Rattle.romfs_format.specs.Part.{leads}
use Rattle.romfs_format.specs.Trailer.{mode_of}
use Rattle.romfs_rows.proofs.part.rows_lead.Given as goal

-- the rows so far lead
abbrev pub invariant-loop-number : goal.invariant-loop-number
invariant-loop-number l = holds_below l.number (leads l.count (mode_of l.trailer) l.part) ≡ true
