-- Blocks of 16 bytes of an image as they are read: in any order, and some more than once.
use Rattle.std.specs.Prelude.{◌≡◌, ℕ, ◌+◌, ◌*◌, ◌/◌, ◌<◌, ◌⊎◌, List, get_or, Contains}
use Rattle.std.specs.List.Sorted.{IsNonDecreasingBy}
use Rattle.romfs_kept.specs.declared.pieces.Piece.{Piece}
use Rattle.romfs_held.specs.Blocks.{IsKept, byte_of}

-- some piece is this block
pub record HasBlock (pieces : List Piece) (block : ℕ) : Type 0 where
  pub piece : Piece
  pub among : Contains pieces piece
  pub is : piece.block ≡ block

-- the pieces are among the old ones, and no block is missing
pub record IsFewer (old new : List Piece) : Type 0 where
  pub from : (x : Piece) → Contains new x → Contains old x
  pub stays : (b : ℕ) → HasBlock old b → HasBlock new b

-- the same, in the order of blocks
pub record IsSortedOut (old new : List Piece) : Type 0 where
  pub fewer : IsFewer old new
  pub rising : IsNonDecreasingBy (λ (x : Piece). x.block) new

-- the pieces are among the old ones and one more, and no block is missing
pub record IsOneMore (old : List Piece) (one : Piece) (new : List Piece) : Type 0 where
  pub from : (x : Piece) → Contains new x → Contains old x ⊎ (x ≡ one)
  pub stays : (b : ℕ) → HasBlock old b → HasBlock new b
  pub has : HasBlock new one.block

-- the piece is one of this many that these bytes have from the first block on
pub record IsOfRow (first : ℕ) (bytes : List ℕ) (count : ℕ) (x : Piece) : Type 0 where
  pub place : ℕ
  pub below : place < count
  pub is : x.block ≡ first + place
  pub same : (j : ℕ) → j < 16 → get_or x.bytes j 0 ≡ get_or bytes (place * 16 + j) 0

-- the pieces are among the old ones and those of the row, and no block is missing
pub record HasRow (old : List Piece) (first : ℕ) (bytes : List ℕ) (count : ℕ)
    (new : List Piece) : Type 0 where
  pub from : (x : Piece) → Contains new x → Contains old x ⊎ IsOfRow first bytes count x
  pub stays : (b : ℕ) → HasBlock old b → HasBlock new b
  pub has : (i : ℕ) → i < count → HasBlock new (first + i)

-- the piece has the bytes of xs
pub record IsRight (xs : List ℕ) (x : Piece) : Type 0 where
  pub same : (j : ℕ) → j < 16 → get_or x.bytes j 0 ≡ get_or xs (16 * x.block + j) 0

-- each piece has them
pub record AreRight (xs : List ℕ) (pieces : List Piece) : Type 0 where
  pub each : (x : Piece) → Contains pieces x → IsRight xs x

-- the blocks rise, and hold what the pieces hold
pub record IsPacked (pieces : List Piece) (blocks bytes : List ℕ) : Type 0 where
  pub kept : IsKept blocks bytes
  pub same : (xs : List ℕ) → AreRight xs pieces → (p : ℕ) → HasBlock pieces (p / 16)
      → byte_of blocks bytes p ≡ get_or xs p 0

-- the list has the size, and at the blocks of the pieces what they hold
pub record IsFilled (pieces : List Piece) (size : ℕ) (kept : List ℕ) : Type 0 where
  pub same : (xs : List ℕ) → AreRight xs pieces → (p : ℕ) → p < size → HasBlock pieces (p / 16)
      → get_or kept p 0 ≡ get_or xs p 0
