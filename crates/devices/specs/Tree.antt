-- Documentation/filesystems/fsverity.rst, "Merkle tree": the tree of digests over blocks of 4,096
-- bytes, with no salt.
use Rattle.std.specs.Prelude.{◌≡◌, ℕ, zero, suc, ◌+◌, ◌-◌, ◌*◌, ◌/◌, ◌^◌, ◌<◌, ◌≤◌, List, [], ◌++◌, length, take, drop, replicate, slice_index}
use Rattle.devices.specs.declared.algorithm.Algorithm.{Algorithm}
use Rattle.devices.specs.declared.algorithm.Algorithm.TheVariants.{Sha256, Sha512}

-- a hash: the digest of each block
abbrev pub Hash : Type 0
Hash = List ℕ → List ℕ

-- the bytes of a digest
abbrev pub digest_size : Algorithm → ℕ
digest_size Sha256 = 32
digest_size Sha512 = 64

-- the digests in a block
abbrev pub fan : Algorithm → ℕ
fan Sha256 = 128
fan Sha512 = 64

-- each is a byte
pub record AreBytes (xs : List ℕ) : Type 0 where
  pub small : (k : ℕ) → k < length xs → slice_index xs k < 256

-- 4,096 bytes
pub record IsBlock (b : List ℕ) : Type 0 where
  pub whole : length b ≡ 4096
  pub bytes : AreBytes b

-- as many bytes as a digest has
pub record IsDigest (a : Algorithm) (d : List ℕ) : Type 0 where
  pub whole : length d ≡ digest_size a
  pub bytes : AreBytes d

-- n whole blocks of bytes
pub record AreBlocks (xs : List ℕ) (n : ℕ) : Type 0 where
  pub whole : length xs ≡ 4096 * n
  pub bytes : AreBytes xs

-- the block with this index, as far as the bytes go, and the digest with this index
unfoldable pub block : List ℕ → ℕ → List ℕ
block xs i = take 4096 (drop (4096 * i) xs)

unfoldable pub digest_at : Algorithm → List ℕ → ℕ → List ℕ
digest_at a xs i = take (digest_size a) (drop (digest_size a * i) xs)

-- the digests of the first n blocks, one after the other
unfoldable pub digests : Hash → List ℕ → ℕ → List ℕ
digests h xs zero = []
digests h xs (suc n) = digests h xs n ++ h (block xs n)

-- how many blocks the digests of n blocks fill
abbrev pub blocks_above : Algorithm → ℕ → ℕ
blocks_above Sha256 n = (n + 127) / 128
blocks_above Sha512 n = (n + 63) / 64

-- the level above n blocks: their digests, and zeros up to whole blocks
unfoldable pub above : Algorithm → Hash → List ℕ → ℕ → List ℕ
above a h xs n = digests h xs n ++ replicate (4096 * blocks_above a n - digest_size a * n) 0

-- this many levels above n blocks, and no fewer, end in one block
pub record HasLevels (a : Algorithm) (n levels : ℕ) : Type 0 where
  pub enough : n ≤ fan a ^ levels
  pub least : (k : ℕ) → n ≤ fan a ^ k → levels ≤ k

-- the digest of the one block at the top, this many levels above n blocks
unfoldable pub root : Algorithm → Hash → ℕ → List ℕ → ℕ → List ℕ
root a h zero xs n = h xs
root a h (suc levels) xs n = root a h levels (above a h xs n) (blocks_above a n)

-- the root hash; zeros if there is no block
unfoldable pub root_hash : Algorithm → Hash → ℕ → List ℕ → ℕ → List ℕ
root_hash a h levels xs zero = replicate (digest_size a) 0
root_hash a h levels xs (suc n) = root a h levels xs (suc n)

-- the levels above n blocks as they are stored, the root's first
unfoldable pub tree : Algorithm → Hash → ℕ → List ℕ → ℕ → List ℕ
tree a h zero xs n = []
tree a h (suc levels) xs n = tree a h levels (above a h xs n) (blocks_above a n) ++ above a h xs n

-- how many blocks these levels have
unfoldable pub tree_blocks : Algorithm → ℕ → ℕ → ℕ
tree_blocks a zero n = 0
tree_blocks a (suc levels) n = tree_blocks a levels (blocks_above a n) + blocks_above a n
