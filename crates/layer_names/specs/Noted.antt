-- Keys that were noted, each as a bit that others may share.
use Rattle.std.specs.Prelude.{◌≡◌, ℕ, ◌+◌, ◌*◌, ◌/◌, ◌%◌, ◌^◌, ◌<◌, List, length, get_or, Bool, true, false}

-- which of this many bits belongs to a key in a directory
abbrev pub bit_of : ℕ → ℕ → ℕ → ℕ
bit_of count directory key =
    (directory * 0x9e3779b97f4a7c15 % 2 ^ 64 + key) % 2 ^ 64 * 0xff51afd7ed558ccd % 2 ^ 64 / 2 ^ 32
    * count / 2 ^ 32

-- the bit of a key is set, if it has one
pub record IsNoted (bits : List Bool) (directory key : ℕ) : Type 0 where
  pub is_set : bit_of (length bits) directory key < length bits
      → get_or bits (bit_of (length bits) directory key) false ≡ true

-- what was noted stays noted, among as many bits
pub record Keeps (old new : List Bool) : Type 0 where
  pub level : length new ≡ length old
  pub each : (directory key : ℕ) → IsNoted old directory key → IsNoted new directory key
