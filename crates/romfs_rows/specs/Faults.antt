-- The fault of an image's trailer.
use Rattle.std.specs.Prelude.{◌≡◌, ◌≤◌, ℕ, List, length, Option, MatchOption}
use Rattle.romfs_format.specs.declared.rule.ImageFault.{ImageFault}
use Rattle.romfs_format.specs.declared.rule.Rule.TheVariants.{Attributes}
use Rattle.romfs_format.specs.Trailer.{trailer_at, HasTrailer, IsTrailerBroken}

-- b has a trailer, which begins at this place
pub record IsTrailerPlace (b : List ℕ) (at : ℕ) : Type 0 where
  pub has : HasTrailer b
  pub is : at ≡ trailer_at b
  pub within : at ≤ length b

-- the fault is that of the trailer of b; none if it has no broken one
abbrev pub IsTrailerFault : List ℕ → Option ImageFault → Type 0
IsTrailerFault b fault = MatchOption fault (¬ IsTrailerBroken b)
    (λ f. IsTrailerBroken b × (f.rule ≡ Attributes) × (f.place ≡ trailer_at b))
