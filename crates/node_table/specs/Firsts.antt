-- The first place of each number in a list.
use Rattle.std.specs.Prelude.{◌≡◌, ◌≢◌, ℕ, ◌<◌, ◌⊎◌, List, length, slice_index, All}
use Rattle.std.specs.List.{Contains}
use Rattle.std.specs.List.Sorted.{IsSorted}
use Rattle.std.specs.Ordering.{nat_cmp, ordering_then}
use Rattle.romfs_sets.specs.Once.{IsOnce}

-- keys with their places, all but some that occur once, in the order of keys, then of places
pub record ArePlacesByKey (keys : List ℕ) (by_key : List (ℕ × ℕ)) : Type 0 where
  pub own : All (λ keyed. (keyed.1 < length keys) × (slice_index keys keyed.1 ≡ keyed.0)) by_key
  pub every : (k : ℕ) → k < length keys → Contains by_key (slice_index keys k, k) ⊎ IsOnce keys k
  pub rising : IsSorted (λ x y. ordering_then (nat_cmp x.0 y.0) (nat_cmp x.1 y.1)) by_key

-- the numbers from 0 on, as many as this
pub record AreThemselves (len : ℕ) (places : List ℕ) : Type 0 where
  pub level : length places ≡ len
  pub each : (k : ℕ) → k < len → slice_index places k ≡ k

-- a key is at this place, and at none before it
pub record IsFirstOf (keys : List ℕ) (key place : ℕ) : Type 0 where
  pub within : place < length keys
  pub at : slice_index keys place ≡ key
  pub before : (k : ℕ) → k < place → slice_index keys k ≢ key

-- for each place the first place with the same key
pub record AreFirsts (keys firsts : List ℕ) : Type 0 where
  pub level : length firsts ≡ length keys
  pub each : (k : ℕ) → k < length keys → IsFirstOf keys (slice_index keys k) (slice_index firsts k)
