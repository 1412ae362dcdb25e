-- Second preimages: they exist if other bytes pass for a file's.
use Rattle.std.specs.Prelude.{◌≡◌, ◌≢◌, ◌⊎◌, ℕ, zero, suc, ◌+◌, ◌/◌, ◌<◌, List, length, slice_index}
use Rattle.devices.specs.declared.algorithm.Algorithm.{Algorithm}
use Rattle.devices.specs.Tree.{Hash, fan, block, blocks_above, above}
use Rattle.devices.specs.File.{descriptor, in_blocks, blocks_of, root_of}
use Rattle.devices.specs.Vouched.{Vouches, VouchesAt}
use Rattle.devices.specs.Seal.{Seal}
use Rattle.devices.specs.Read.{AreRead}

-- two lists differ, and have the same digest
pub record AreTwins (h : Hash) (b c : List ℕ) : Type 0 where
  pub same : h c ≡ h b
  pub other : c ≢ b

-- a block with this index was met, and blocks on the way from it to the top: one of them differs
-- from the one there in the tree of n blocks, and has the same digest
unfoldable pub IsForged : (a : Algorithm) (h : Hash) (levels : ℕ) (xs : List ℕ) (n : ℕ)
    (top : List ℕ) (i : ℕ) (b : List ℕ) → Vouches a h levels top i b → Type 0
unfolding Vouches
IsForged a h zero xs n top i b v = AreTwins h xs b
IsForged a h (suc levels) xs n top i b v =
    AreTwins h (block xs i) b
    ⊎ IsForged a h levels (above a h xs n) (blocks_above a n) top (i / fan a) (v.0) (v.2)

-- two lists of n blocks, or two of their levels, have at one place two different blocks with the
-- same digest
unfoldable pub HaveTwins : Algorithm → Hash → ℕ → List ℕ → List ℕ → ℕ → Type 0
HaveTwins a h zero xs ys n = AreTwins h xs ys
HaveTwins a h (suc levels) xs ys n =
    ((i : ℕ) × (i < n) × AreTwins h (block xs i) (block ys i))
    ⊎ HaveTwins a h levels (above a h xs n) (above a h ys n) (blocks_above a n)

-- two files, each with this many levels: their descriptors are twins, or their trees have twins
pub record AreForged (a : Algorithm) (h : Hash) (xs ys : List ℕ) (k levels : ℕ) : Type 0 where
  pub twins :
      AreTwins h (descriptor a (length xs) (root_of a h k xs))
      (descriptor a (length ys) (root_of a h levels ys))
      ⊎ HaveTwins a h k (in_blocks xs) (in_blocks ys) (blocks_of (length xs))

-- the byte at a place was vouched for, but the descriptor that was met and that of a file of these
-- bytes are twins, or one of the blocks that were met has a twin in the tree of that file
pub record IsForgedAt (s : Seal) (ys : List ℕ) (levels place byte : ℕ)
    (v : VouchesAt s.algorithm s.hash s.size s.digest place byte) : Type 0 where
  pub twins :
      AreTwins s.hash (descriptor s.algorithm (length ys) (root_of s.algorithm s.hash levels ys))
      (descriptor s.algorithm s.size v.top)
      ⊎ IsForged s.algorithm s.hash v.levels (in_blocks ys) (blocks_of (length ys)) v.top
      (place / 4096) v.of v.vouched

-- one of the bytes that were read from a place on is forged
pub record AreForgedIn (s : Seal) (ys : List ℕ) (levels place : ℕ) (bytes : List ℕ)
    (read : AreRead s place bytes) : Type 0 where
  pub at : ℕ
  pub within : at < length bytes
  pub forged : IsForgedAt s ys levels (place + at) (slice_index bytes at)
      ((read.each at within).vouched)
