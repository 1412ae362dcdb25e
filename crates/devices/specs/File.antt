-- Documentation/filesystems/fsverity.rst, "fs-verity descriptor" and "fs-verity file digest".
use Rattle.std.specs.Prelude.{◌≡◌, ℕ, ◌+◌, ◌-◌, ◌*◌, ◌/◌, ◌^◌, ◌<◌, List, [], ◌∷◌, ◌++◌, length, replicate}
use Rattle.std.specs.Int.{to_le_bytes, w64}
use Rattle.devices.specs.declared.algorithm.Algorithm.{Algorithm}
use Rattle.devices.specs.declared.algorithm.Algorithm.TheVariants.{Sha256, Sha512}
use Rattle.devices.specs.Tree.{Hash, AreBytes, HasLevels, root_hash}

-- how many blocks this many bytes fill
abbrev pub blocks_of : ℕ → ℕ
blocks_of size = (size + 4095) / 4096

-- a block that ends early is filled with zeros
unfoldable pub filled : List ℕ → List ℕ
filled c = c ++ replicate (4096 - length c) 0

-- the bytes of the file in whole blocks
unfoldable pub in_blocks : List ℕ → List ℕ
in_blocks xs = xs ++ replicate (4096 * blocks_of (length xs) - length xs) 0

-- the algorithms' numbers, as FS_IOC_MEASURE_VERITY has them
abbrev pub number : Algorithm → ℕ
number Sha256 = 1
number Sha512 = 2

-- the bytes, and zeros up to the size of their field
unfoldable pub field : ℕ → List ℕ → List ℕ
field n xs = xs ++ replicate (n - length xs) 0

-- version, hash_algorithm, log_blocksize, salt_size; __reserved_0x04; data_size; root_hash; salt;
-- __reserved
unfoldable pub descriptor : Algorithm → ℕ → List ℕ → List ℕ
descriptor a size root =
    (1 ∷ number a ∷ 12 ∷ 0 ∷ []) ++ (replicate 4 0 ++ (to_le_bytes w64 size
    ++ (field 64 root ++ (replicate 32 0 ++ replicate 144 0))))

-- the root hash of a file
abbrev pub root_of : Algorithm → Hash → ℕ → List ℕ → List ℕ
root_of a h levels xs = root_hash a h levels (in_blocks xs) (blocks_of (length xs))

-- the digest of a file
abbrev pub file_digest : Algorithm → Hash → ℕ → List ℕ → List ℕ
file_digest a h levels xs = h (descriptor a (length xs) (root_of a h levels xs))

-- this is the digest of a file of these bytes, which a file can have
pub record IsFileDigest (a : Algorithm) (h : Hash) (xs d : List ℕ) : Type 0 where
  pub bytes : AreBytes xs
  pub small : length xs < 2 ^ 63
  pub levels : ℕ
  pub has_levels : HasLevels a (blocks_of (length xs)) levels
  pub digest : file_digest a h levels xs ≡ d
