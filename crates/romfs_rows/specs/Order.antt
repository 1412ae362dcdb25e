-- The order of kept rows, and the position of one.
use Rattle.std.specs.Prelude.{◌≤◌, ◌<◌, ◌^◌, ◌==◌, ℕ, List, Option, All, length}
use Rattle.std.specs.List.{position}
use Rattle.std.specs.List.Sorted.{IsNonDecreasingBy}
use Rattle.romfs_format.specs.declared.attribute_row.AttributeRow.{AttributeRow}
use Rattle.romfs_format.specs.declared.limits.TheConstants.{MAX_MODE}

-- the rows rise by offset, each mode has 12 bits, and a number of 32 bits counts them
pub record AreOrdered (rows : List AttributeRow) : Type 0 where
  pub rising : IsNonDecreasingBy (λ row. row.place) rows
  pub modes : All (λ row. row.mode ≤ MAX_MODE) rows
  pub few : length rows < 2 ^ 32

-- the position of the row for the header at p among these, counted from 0, if there is one
abbrev pub position_at : List AttributeRow → ℕ → Option ℕ
position_at rows p = position (λ row. row.place == p) rows
