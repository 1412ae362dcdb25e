-- What reads under a digest give. There is no premise on the hash alone, but on the bytes that
-- reads may give.
use Rattle.std.specs.Prelude.{◌≡◌, ◌≢◌, ℕ, ◌+◌, ◌*◌, ◌<◌, List, length, slice_index}
use Rattle.devices.specs.Given.{Given, Allows}
use Rattle.devices.specs.Tree.{Hash, AreBytes, HasLevels, block, blocks_above, above}
use Rattle.devices.specs.File.{blocks_of, filled, in_blocks, IsFileDigest}
use Rattle.devices.specs.Vouched.{VouchesAt}
use Rattle.devices.specs.Seal.{Seal, lowest_place, kept_of, MayBeKept, IsTop}

-- no read of the source at this place gives different bytes, of the same number, with the digest of
-- these bytes
pub record IsAloneAt (source : Given) (place : ℕ) (h : Hash) (b : List ℕ) : Type 0 where
  pub alone : (c : List ℕ) → AreBytes c → length c ≡ length b → Allows source place c
      → h (filled c) ≡ h (filled b) → c ≡ b

-- the digest is that of a file of these bytes. What reads may give of the upper levels makes, with
-- the reported size, no other descriptor with that digest. No read gives, instead of a block or of
-- one of the lowest hash blocks, another with the same digest
pub record IsUnmatched (s : Seal) (xs : List ℕ) : Type 0 where
  pub of : IsFileDigest s.algorithm s.hash xs s.digest
  pub top : (levels : ℕ) (kept : List ℕ) → HasLevels s.algorithm (blocks_of s.size) levels
      → MayBeKept s levels kept → IsTop s levels kept → (s.size ≡ length xs)
      × (kept ≡ kept_of s.algorithm s.hash levels (in_blocks xs) (blocks_of (length xs)))
  pub blocks : (i : ℕ) → i < blocks_of (length xs)
      → IsAloneAt s.image (4096 * i) s.hash (block xs i)
  pub hash_blocks : of.levels ≢ 0 → (i : ℕ) → i < blocks_above s.algorithm (blocks_of (length xs))
      → IsAloneAt s.tree
      (lowest_place s.algorithm of.levels (blocks_of (length xs)) + 4096 * i) s.hash
      (block (above s.algorithm s.hash (in_blocks xs) (blocks_of (length xs))) i)

-- the digest vouches for the byte at a place, and it is that of any unmatched bytes with the digest
pub record IsReadAt (s : Seal) (place byte : ℕ) : Type 0 where
  pub vouched : VouchesAt s.algorithm s.hash s.size s.digest place byte
  pub right : (xs : List ℕ) → IsUnmatched s xs → (place < length xs) × (byte ≡ slice_index xs place)

-- the same of each of these bytes, from a place on
pub record AreRead (s : Seal) (place : ℕ) (bytes : List ℕ) : Type 0 where
  pub each : (k : ℕ) → k < length bytes → IsReadAt s (place + k) (slice_index bytes k)
