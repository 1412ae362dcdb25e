-- The slots of a set, as a list of their places: a slot's place is 16 times its number.
use Rattle.std.specs.Prelude.{◌≡◌, ℕ, ◌*◌, ◌<◌, ◌≤◌, List, length, get_or, Bool, true, false}
use Rattle.romfs_sets.specs.Sets.{rank}

-- the places of the slots below n that are in the set, in order
pub record AreCollected (set : List Bool) (n : ℕ) (places : List ℕ) : Type 0 where
  pub count : length places ≡ rank set n
  pub few : length places ≤ n
  pub rising : (i j : ℕ) → i < j → j < length places → get_or places i 0 < get_or places j 0
  pub each : (i : ℕ) → i < length places
      → (k : ℕ) × (k < n) × (get_or places i 0 ≡ k * 16) × (get_or set k false ≡ true)
  pub place : (k : ℕ) → k < n → get_or set k false ≡ true → get_or places (rank set k) 0 ≡ k * 16
