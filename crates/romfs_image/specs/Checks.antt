-- Which bytes a check accepts as an image.
use Rattle.std.specs.Prelude.{◌≡◌, ℕ, List}
use Rattle.romfs_format.specs.declared.attribute_row.AttributeRow.{AttributeRow}
use Rattle.romfs_format.specs.declared.rule.Profile.{Profile}
use Rattle.romfs_format.specs.Fields.{image}
use Rattle.romfs_format.specs.Rules.{IsSound}
use Rattle.romfs_format.specs.Extended.{Extended}
use Rattle.romfs_format.specs.Trailer.{lists_shown, rows_shown}

-- a is the accessible bytes of b, which keeps every rule of the profile
abbrev pub IsChecked : Profile → List ℕ → List ℕ → Type 0
IsChecked profile b a = (a ≡ image b) × IsSound profile b

-- and these are the rows that the profile shows, and the list of extended attributes of each
pub record IsCheckedWithRows (profile : Profile) (b a : List ℕ) (rows : List AttributeRow)
    (lists : List (List Extended)) : Type 0 where
  pub checked : IsChecked profile b a
  pub rows_are : rows ≡ rows_shown profile b
  pub lists_are : lists ≡ lists_shown profile b
