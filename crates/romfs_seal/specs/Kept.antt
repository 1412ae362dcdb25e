-- What is held in memory of a tree, and what one of its lowest hash blocks proves.
use Rattle.std.specs.Prelude.{◌≡◌, ℕ, ◌+◌, ◌-◌, ◌*◌, ◌/◌, ◌^◌, ◌<◌, ◌≤◌, List, length}
use Rattle.devices.specs.declared.algorithm.Algorithm.{Algorithm}
use Rattle.devices.specs.Tree.{AreBytes, IsDigest, HasLevels, fan, block, digest_at}
use Rattle.devices.specs.File.{blocks_of, in_blocks, descriptor}
use Rattle.devices.specs.Vouched.{Vouches}
use Rattle.devices.specs.Seal.{Seal, lowest_place, kept_len, kept_of, IsTop}
use Rattle.devices.specs.Read.{IsUnmatched}

-- what is held of the tree: its descriptor has the digest, and it is the tree of unmatched bytes
pub record IsOpened (s : Seal) (levels lowest : ℕ) (kept : List ℕ) : Type 0 where
  pub small : s.size < 2 ^ 63
  pub sized : (m : List ℕ) → IsDigest s.algorithm (s.hash m)
  pub has_levels : HasLevels s.algorithm (blocks_of s.size) levels
  pub place : lowest ≡ lowest_place s.algorithm levels (blocks_of s.size)
  pub near : lowest ≤ 2 ^ 62
  pub long : length kept ≡ kept_len s.algorithm levels (blocks_of s.size)
  pub bytes : AreBytes kept
  pub described : IsTop s levels kept
  pub right : (xs : List ℕ) → IsUnmatched s xs → (s.size ≡ length xs)
      × (kept ≡ kept_of s.algorithm s.hash levels (in_blocks xs) (blocks_of (length xs)))

-- the first of the blocks whose digests are in one hash block with this one's
abbrev pub first_under : Algorithm → ℕ → ℕ
first_under a i = fan a * (i / fan a)

-- the end of these blocks
abbrev pub run_end : Algorithm → ℕ → ℕ
run_end a place = 4096 * (first_under a (place / 4096) + fan a)

-- this leaf has the digests of the blocks from this one on. The digest of the file vouches for any
-- block that has the digest at its place there, and this is the digest of the block of the
-- unmatched bytes
pub record IsLeaf (s : Seal) (first : ℕ) (leaf : List ℕ) : Type 0 where
  pub long : length leaf ≡ 4096
  pub levels : ℕ
  pub has_levels : HasLevels s.algorithm (blocks_of s.size) levels
  pub top : List ℕ
  pub described : s.hash (descriptor s.algorithm s.size top) ≡ s.digest
  pub vouches : (i : ℕ) (b : List ℕ) → first ≤ i → i < first + fan s.algorithm
      → i < blocks_of s.size → s.hash b ≡ digest_at s.algorithm leaf (i - first)
      → Vouches s.algorithm s.hash levels top i b
  pub sized : (xs : List ℕ) → IsUnmatched s xs → s.size ≡ length xs
  pub right : (xs : List ℕ) → IsUnmatched s xs → (i : ℕ) → first ≤ i
      → i < first + fan s.algorithm → i < blocks_of s.size
      → digest_at s.algorithm leaf (i - first) ≡ s.hash (block (in_blocks xs) i)
