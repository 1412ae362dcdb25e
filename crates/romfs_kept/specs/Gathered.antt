-- What is kept of an image.
use Rattle.std.specs.Prelude.{◌≡◌, ℕ, ◌+◌, ◌/◌, ◌^◌, ◌≤◌, ◌⊎◌, ◌&&◌, List, length, take, drop, Bool, true, false, nat_eq, nat_le, nat_lt, codes, if◌then◌else◌}
use Rattle.std.specs.List.{starts_with}
use Rattle.devices.specs.Sources.{Source, IfShown}
use Rattle.romfs_format.specs.declared.limits.TheConstants.{TRAILER_HEAD_SIZE, PART_HEAD_SIZE}
use Rattle.romfs_format.specs.Fields.{padded}
use Rattle.romfs_format.specs.Part.{part_size}
use Rattle.romfs_format.specs.Trailer.{row_count, trailer_end, part}
use Rattle.romfs_kept.specs.declared.fault.GatherFault.{GatherFault}
use Rattle.romfs_kept.specs.declared.fault.GatherFault.TheVariants.{Far}
use Rattle.romfs_kept.specs.Footprint.{IsClosed, is_same, reach}
use Rattle.romfs_kept.specs.Reads.{IsCause}

-- the list is as long as what is looked at, and has its bytes at a closed set of headers
pub record IsGatheredOf (b a : List ℕ) : Type 0 where
  pub long : length a ≡ reach b
  pub headers : ℕ → Bool
  pub closed : IsClosed (is_same (take (length a) b) a) headers (take (length a) b)

-- the same of any bytes that the source shows
abbrev pub IsGathered : Source → List ℕ → Type 0
IsGathered source a = IfShown source (λ b. IsGatheredOf b a)

-- this many bytes are looked at
abbrev pub IsReach : Source → ℕ → Type 0
IsReach source size = IfShown source (λ b. size ≡ reach b)

-- a trailer begins at the place
abbrev pub begins_trailer : List ℕ → ℕ → Bool
begins_trailer b place =
    nat_lt place (2 ^ 32) && starts_with nat_eq (drop place b) (codes "-attr01-")

-- how much is kept of the bytes after the rows, if a part begins there: all of the part; only its
-- letters if it is cut off
abbrev pub kept_part : List ℕ → ℕ
kept_part x =
    if starts_with nat_eq x (codes "-attr02-")
    then (if nat_le PART_HEAD_SIZE (part_size x) && nat_le (part_size x) (length x)
    then part_size x else 8)
    else 0

-- how much is kept of the bytes t, which begin with a trailer: all up to its end; only the head if
-- it is cut off, or has more rows than an image of this full size has places for headers
abbrev pub kept_end : ℕ → List ℕ → ℕ
kept_end full t =
    if nat_le (trailer_end t) (length t) && nat_le (row_count t) (padded full / 16)
    then trailer_end t + kept_part (part t) else TRAILER_HEAD_SIZE

-- what is kept of them
abbrev pub kept_tail : ℕ → List ℕ → List ℕ
kept_tail full t = take (kept_end full t) t

-- a trailer begins after this full size, and what is kept of it ends at 2^32 or beyond
pub record IsFarAt (full : ℕ) (b : List ℕ) : Type 0 where
  pub begins : begins_trailer b (padded full) ≡ true
  pub far : 2 ^ 32 ≤ padded full + length (kept_tail full (drop (padded full) b))

-- the same after what is looked at
abbrev pub IsFar : List ℕ → Type 0
IsFar b = IsFarAt (reach b) b

-- what was gathered, followed by what is kept of the trailer, if one begins there
pub record IsGatheredWithTrailerOf (b a : List ℕ) : Type 0 where
  pub short : length a ≤ length b
  pub front : IsGatheredOf b (take (reach b) a)
  pub none : begins_trailer b (padded (reach b)) ≡ false → length a ≡ reach b
  pub tail : begins_trailer b (padded (reach b)) ≡ true
      → drop (padded (reach b)) a ≡ kept_tail (reach b) (drop (padded (reach b)) b)

-- the same of any bytes that the source shows
abbrev pub IsGatheredWithTrailer : Source → List ℕ → Type 0
IsGatheredWithTrailer source a = IfShown source (λ b. IsGatheredWithTrailerOf b a)

-- why it was not gathered so: for the reasons of the front, or since the trailer ends too far
abbrev pub IsCauseWithTrailer : Source → GatherFault → Type 0
IsCauseWithTrailer source fault = IsCause source fault ⊎ ((fault ≡ Far) × IfShown source IsFar)
