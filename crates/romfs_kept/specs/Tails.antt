-- What is read from a trailer.
use Rattle.std.specs.Prelude.{◌≡◌, ℕ, ◌-◌, ◌/◌, ◌⊎◌, ◌&&◌, List, drop, Bool, false, true, Option, Some, None, nat_eq, nat_le, if◌then◌else◌}
use Rattle.std.specs.List.{starts_with}
use Rattle.devices.specs.Sources.{Source, IsSizeOf, IfShown}
use Rattle.romfs_format.specs.Fields.{padded}
use Rattle.romfs_format.specs.Trailer.{row_start}
use Rattle.romfs_kept.specs.declared.fault.GatherFault.{GatherFault}
use Rattle.romfs_kept.specs.declared.fault.GatherFault.TheVariants.{Far}
use Rattle.romfs_kept.specs.Gathered.{IsFarAt, begins_trailer, kept_part, kept_end, kept_tail}
use Rattle.romfs_kept.specs.Reads.{IsCause}

-- there are this many bytes from the place on
pub record IsRoom (source : Source) (place room : ℕ) : Type 0 where
  pub size : ℕ
  pub is : IsSizeOf source size
  pub left : room ≡ size - place

-- whether a trailer begins at the place
abbrev pub BeginsTrailer : Source → ℕ → Bool → Type 0
BeginsTrailer source place answer = IfShown source (λ b. answer ≡ begins_trailer b place)

-- whether these letters are at the place
abbrev pub BeginsWith : Source → ℕ → List ℕ → Bool → Type 0
BeginsWith source place letters answer =
    IfShown source (λ b. answer ≡ starts_with nat_eq (drop place b) letters)

-- how much is kept of a part that may begin at the place
abbrev pub IsPartEnd : Source → ℕ → ℕ → Type 0
IsPartEnd source place end = IfShown source (λ b. end ≡ kept_part (drop place b))

-- where this many rows end, if there are as many bytes, and no more rows than an image of this full
-- size has places for headers
abbrev pub end_of : ℕ → ℕ → ℕ → Option ℕ
end_of rows room full =
    if nat_le (row_start rows) room && nat_le rows (padded full / 16)
    then Some (row_start rows) else None

-- how much is kept from the place on
abbrev pub IsTailEnd : Source → ℕ → ℕ → ℕ → Type 0
IsTailEnd source place full end = IfShown source (λ b. end ≡ kept_end full (drop place b))

-- no trailer begins after the full size
abbrev pub IsNoTail : Source → ℕ → Type 0
IsNoTail source full = IfShown source (λ b. begins_trailer b (padded full) ≡ false)

-- one does, and this is what is kept of it
abbrev pub IsTail : Source → ℕ → List ℕ → Type 0
IsTail source full tail =
    IfShown source (λ b. (begins_trailer b (padded full) ≡ true)
    × (tail ≡ kept_tail full (drop (padded full) b)))

-- why the trailer after this full size was not read
abbrev pub IsTailCause : Source → ℕ → GatherFault → Type 0
IsTailCause source full fault =
    IsCause source fault ⊎ ((fault ≡ Far) × IfShown source (IsFarAt full))
