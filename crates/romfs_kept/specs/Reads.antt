-- What is read from a source, of whose bytes only those below a size are used.
use Rattle.std.specs.Prelude.{◌≡◌, ◌≢◌, ℕ, ◌+◌, ◌<◌, ◌≤◌, ◌%◌, ◌⊎◌, List, length, take, get_or, Option, MatchOption}
use Rattle.devices.specs.Sources.{Source, MayFail, IsSizeOf, IfShown}
use Rattle.romfs_kept.specs.declared.fault.GatherFault.{GatherFault}
use Rattle.romfs_kept.specs.declared.fault.GatherFault.TheVariants.{Unread, Memory}
use Rattle.romfs_kept.specs.declared.pieces.Piece.{Piece}
use Rattle.romfs_kept.specs.Pieces.{HasBlock, AreRight}

-- a source, and how many of its bytes may be read
pub record Extent (S : Type 0) : Type 0 where
  pub source : S
  pub size : ℕ

-- the source has at least n bytes
pub record AreWithin (source : Source) (n : ℕ) : Type 0 where
  pub size : ℕ
  pub is : IsSizeOf source size
  pub fits : n ≤ size

-- memory failed; or a read did, which may fail
abbrev pub IsCause : Source → GatherFault → Type 0
IsCause source fault = (fault ≡ Memory) ⊎ ((fault ≡ Unread) × MayFail source)

-- the room has the bytes of xs from the place on, and zeros after their end
pub record HasBytesAt (xs : List ℕ) (at : ℕ) (room : List ℕ) : Type 0 where
  pub same : (i : ℕ) → i < length room → get_or room i 0 ≡ get_or xs (at + i) 0

-- the window has the bytes that are shown from its start on
abbrev pub IsHeld : Source → ℕ → List ℕ → Type 0
IsHeld source start bytes = IfShown source (λ b. HasBytesAt b start bytes)

-- the room has those that may be read, from the place on, and zeros after their end
abbrev pub IsReadAt : {S : Type 0} → (S → Source) → Extent S → ℕ → List ℕ → Type 0
IsReadAt of x at room = IfShown (of x.source) (λ b. HasBytesAt (take x.size b) at room)

-- the name ends in the last block of this front of a header and its name
pub record IsEnded (near : List ℕ) (count : ℕ) : Type 0 where
  pub low : 32 ≤ count
  pub high : count ≤ length near
  pub whole : count % 16 ≡ 0
  pub runs : (i : ℕ) → 16 ≤ i → i + 16 < count → get_or near i 0 ≢ 0
  pub stops : (i : ℕ) × (i < count) × (count ≤ i + 16) × (get_or near i 0 ≡ 0)

-- no name ends in this front
pub record IsUnended (near : List ℕ) : Type 0 where
  pub runs : (i : ℕ) → 16 ≤ i → i < length near → get_or near i 0 ≢ 0

-- the end of the name in this front, if the name ends there
abbrev pub IsEndIn : List ℕ → Option ℕ → Type 0
IsEndIn near end = MatchOption end (IsUnended near) (IsEnded near)

-- the bytes are those of the header at the place and of its name: up to the end of the block in
-- which the name ends, or as many as it may have
pub record IsHeadAt (xs : List ℕ) (at : ℕ) (head : List ℕ) : Type 0 where
  pub same : HasBytesAt xs at head
  pub low : 32 ≤ length head
  pub whole : length head % 16 ≡ 0
  pub runs : (i : ℕ) → 16 ≤ i → i + 16 < length head → get_or head i 0 ≢ 0
  pub stops : length head < 272
      → (i : ℕ) × (i < length head) × (length head ≤ i + 16) × (get_or head i 0 ≡ 0)

-- the same of bytes that are shown
abbrev pub IsHeadRead : {S : Type 0} → (S → Source) → Extent S → ℕ → List ℕ → Type 0
IsHeadRead of x at head = IfShown (of x.source) (λ b. IsHeadAt (take x.size b) at head)

-- this many blocks of xs from the first on were added
pub record IsAdded (xs : List ℕ) (first count : ℕ) (old new : List Piece) : Type 0 where
  pub right : AreRight xs old → AreRight xs new
  pub stays : (b : ℕ) → HasBlock old b → HasBlock new b
  pub has : (i : ℕ) → i < count → HasBlock new (first + i)

-- the same of bytes that are shown
abbrev pub AreAdded :
    {S : Type 0} → (S → Source) → Extent S → ℕ → ℕ → List Piece → List Piece → Type 0
AreAdded of x first count old new =
    IfShown (of x.source) (λ b. IsAdded (take x.size b) first count old new)
