-- Keys that occur once in a list.
use Rattle.std.specs.Prelude.{◌≡◌, ℕ, ◌<◌, List, length, slice_index, get_or, Bool, true, false}

-- the key at this place occurs at no other
abbrev pub IsOnce : List ℕ → ℕ → Type 0
IsOnce keys k = (j : ℕ) → j < length keys → slice_index keys j ≡ slice_index keys k → j ≡ k

-- there is one for each place, true only for keys that occur once
pub record AreSeenOnce (keys : List ℕ) (once : List Bool) : Type 0 where
  pub level : length once ≡ length keys
  pub each : (k : ℕ) → k < length keys → get_or once k false ≡ true → IsOnce keys k
