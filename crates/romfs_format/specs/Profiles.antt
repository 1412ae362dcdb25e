-- What each profile requires of an image besides the rules common to all.
use Rattle.std.specs.Prelude.{Bool, true, false, if◌then◌else◌}
use Rattle.romfs_format.specs.declared.rule.Profile.{Profile}
use Rattle.romfs_format.specs.declared.rule.Profile.TheVariants.{Usual, Strict, UsualWithAttributes, StrictWithAttributes}

-- the words of each header must sum to 0
abbrev pub asks_sums : Profile → Bool
asks_sums Usual = false
asks_sums Strict = true
asks_sums UsualWithAttributes = false
asks_sums StrictWithAttributes = true

-- the attribute trailer is read, and must keep its rule
abbrev pub reads_attributes : Profile → Bool
reads_attributes Usual = false
reads_attributes Strict = false
reads_attributes UsualWithAttributes = true
reads_attributes StrictWithAttributes = true

-- the profile that requires sums and reads attributes, or not, as these say
abbrev pub profile_with : Bool → Bool → Profile
profile_with sums attributes =
    if attributes
    then (if sums then StrictWithAttributes else UsualWithAttributes)
    else (if sums then Strict else Usual)
