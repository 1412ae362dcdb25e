-- One name of a list and the next.
use Rattle.std.specs.Prelude.{ℕ, ◌+◌, ◌*◌, ◌||◌, Bool, List, nat_le}
use Rattle.std.specs.Ordering.{nat_cmp, is_lt}
use Rattle.std.specs.Cmp.Lexicographic.{slice_cmp}
use Rattle.romfs_format.specs.Part.{piece}

-- the name of attribute i is the last before the end, or comes before the next
abbrev pub rises_at : List ℕ → ℕ → ℕ → Bool
rises_at y end i =
    nat_le end (i + 1) || is_lt (slice_cmp nat_cmp (piece y (2 * i)) (piece y (2 * (i + 1))))
