-- When no read under a digest may fail.
use Rattle.std.specs.Prelude.{◌≡◌, ℕ, List, length}
use Rattle.devices.specs.Given.{these}
use Rattle.devices.specs.Tree.{tree}
use Rattle.devices.specs.File.{blocks_of, in_blocks, IsFileDigest}
use Rattle.devices.specs.Seal.{Seal}

-- the bytes with this digest are held, of this size, and so is their tree
pub record IsHonest (s : Seal) (xs : List ℕ) : Type 0 where
  pub of : IsFileDigest s.algorithm s.hash xs s.digest
  pub size : s.size ≡ length xs
  pub image_held : s.image ≡ these xs
  pub tree_held :
      s.tree ≡ these (tree s.algorithm s.hash of.levels (in_blocks xs) (blocks_of (length xs)))

-- no bytes are held in this way
pub record IsTampered (s : Seal) : Type 0 where
  pub no : (xs : List ℕ) → IsHonest s xs → ⊥
