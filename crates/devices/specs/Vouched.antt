-- What a digest says about a block that was read, and about bytes. It has no premise on the hash.
use Rattle.std.specs.Prelude.{◌≡◌, ℕ, zero, suc, ◌/◌, ◌%◌, ◌<◌, List, slice_index}
use Rattle.devices.specs.declared.algorithm.Algorithm.{Algorithm}
use Rattle.devices.specs.Tree.{Hash, IsBlock, HasLevels, fan, digest_at}
use Rattle.devices.specs.File.{blocks_of, descriptor}

-- the root hash vouches for the block with this index, this many levels below: a block above it,
-- which that hash vouches for too, has its digest at its place
unfoldable pub Vouches : Algorithm → Hash → ℕ → List ℕ → ℕ → List ℕ → Type 0
Vouches a h zero top i b = h b ≡ top
Vouches a h (suc levels) top i b =
    (upper : List ℕ) × (IsBlock upper) × (Vouches a h levels top (i / fan a) upper)
    × (h b ≡ digest_at a upper (i % fan a))

-- the byte at a place is that of a block that the digest of a file of this size vouches for
pub record VouchesAt (a : Algorithm) (h : Hash) (size : ℕ) (digest : List ℕ)
    (place byte : ℕ) : Type 0 where
  pub within : place < size
  pub top : List ℕ
  pub described : h (descriptor a size top) ≡ digest
  pub levels : ℕ
  pub has_levels : HasLevels a (blocks_of size) levels
  pub of : List ℕ
  pub is_block : IsBlock of
  pub vouched : Vouches a h levels top (place / 4096) of
  pub is : byte ≡ slice_index of (place % 4096)
