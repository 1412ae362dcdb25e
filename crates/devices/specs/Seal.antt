-- What is read under a digest, and where the tree's levels are in its file: as `fsverity digest
-- --out-merkle-tree` writes them.
use Rattle.std.specs.Prelude.{◌≡◌, ℕ, zero, suc, ◌*◌, List, length, replicate}
use Rattle.devices.specs.Given.{Given, Allows}
use Rattle.devices.specs.declared.algorithm.Algorithm.{Algorithm}
use Rattle.devices.specs.Tree.{Hash, AreBytes, digest_size, blocks_above, above, root, root_hash, tree_blocks}
use Rattle.devices.specs.File.{blocks_of, filled, descriptor}

-- what reads from the file and from the file of its tree may give; how it is hashed; its size and
-- digest
pub record Seal : Type 0 where
  pub image : Given
  pub tree : Given
  pub algorithm : Algorithm
  pub hash : Hash
  pub size : ℕ
  pub digest : List ℕ

-- where the lowest hash blocks begin: after the levels above them
abbrev pub lowest_place : Algorithm → ℕ → ℕ → ℕ
lowest_place a zero n = 0
lowest_place a (suc levels) n = 4096 * tree_blocks a levels (blocks_above a n)

-- how much of the tree is kept: the level above the lowest hash blocks, or one digest
abbrev pub kept_len : Algorithm → ℕ → ℕ → ℕ
kept_len a zero n = digest_size a
kept_len a (suc zero) n = digest_size a
kept_len a (suc (suc levels)) n = 4096 * blocks_above a (blocks_above a n)

-- the root hash over what is kept
abbrev pub kept_root : Algorithm → Hash → ℕ → List ℕ → ℕ → List ℕ
kept_root a h zero kept n = kept
kept_root a h (suc zero) kept n = kept
kept_root a h (suc (suc levels)) kept n = root a h levels kept (blocks_above a (blocks_above a n))

-- what is kept of the tree of these blocks
abbrev pub kept_of : Algorithm → Hash → ℕ → List ℕ → ℕ → List ℕ
kept_of a h zero xs n = root_hash a h 0 xs n
kept_of a h (suc zero) xs n = h (above a h xs n)
kept_of a h (suc (suc levels)) xs n = above a h (above a h xs n) (blocks_above a n)

-- the source may give these bytes at the place, and filled with zeros they are a block
pub record IsGiven (source : Given) (place count : ℕ) (b : List ℕ) : Type 0 where
  pub of : List ℕ
  pub bytes : AreBytes of
  pub long : length of ≡ count
  pub given : Allows source place of
  pub is : b ≡ filled of

-- the digest of the only block of a file of this size, as reads may give it
abbrev pub MayBeOnly : Seal → ℕ → List ℕ → Type 0
MayBeOnly s zero kept = kept ≡ replicate (digest_size s.algorithm) 0
MayBeOnly s (suc k) kept = (b : List ℕ) × IsGiven s.image 0 (suc k) b × (kept ≡ s.hash b)

-- the digest of the only hash block, as reads may give it
abbrev pub MayBeFirst : Seal → List ℕ → Type 0
MayBeFirst s kept = (b : List ℕ) × IsGiven s.tree 0 4096 b × (kept ≡ s.hash b)

-- what is kept of a tree of this many levels, as reads may give it
abbrev pub MayBeKept : Seal → ℕ → List ℕ → Type 0
MayBeKept s zero kept = MayBeOnly s s.size kept
MayBeKept s (suc zero) kept = MayBeFirst s kept
MayBeKept s (suc (suc levels)) kept =
    (length kept ≡ kept_len s.algorithm (suc (suc levels)) (blocks_of s.size))
    × AreBytes kept × Allows s.tree (4096 * tree_blocks s.algorithm levels
    (blocks_above s.algorithm (blocks_above s.algorithm (blocks_of s.size)))) kept

-- with the size that is reported, this is kept of a file with the digest that is reported
abbrev pub IsTop : Seal → ℕ → List ℕ → Type 0
IsTop s levels kept =
    s.hash (descriptor s.algorithm s.size
    (kept_root s.algorithm s.hash levels kept (blocks_of s.size))) ≡ s.digest
