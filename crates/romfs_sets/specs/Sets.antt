-- Sets of slots, as a bit for each: 64 a word, lowest first.
use Rattle.std.specs.Prelude.{◌≡◌, ℕ, zero, suc, ◌+◌, ◌*◌, ◌/◌, ◌%◌, ◌<◌, ◌≤◌, ◌==◌, ◌⊎◌, List, length, map, Bool, true, false, cond, get_or, Option, MatchOption}
use Rattle.std.specs.Int.{bit_at}
use Rattle.std.specs.List.{range_with_len}

-- the bit of slot k
abbrev pub is_bit : List ℕ → ℕ → Bool
is_bit words k = bit_at (get_or words (k / 64) 0) (k % 64) == 1

-- whether each of the first n slots is in the set
unfoldable pub bits : ℕ → List ℕ → List Bool
bits n words = map (is_bit words) (range_with_len 0 n)

-- how many of the first n slots are in the set: the number of slot n there
unfoldable pub rank : List Bool → ℕ → ℕ
rank set zero = 0
rank set (suc n) = rank set n + cond (get_or set n false) 1 0

-- for each word of the set's slots, how many of the set are before it
pub record AreCounts (set : List Bool) (before : List ℕ) : Type 0 where
  pub sized : length before ≡ length set / 64 + 1
  pub each : (w : ℕ) → w < length before → get_or before w 0 ≡ rank set (w * 64)

-- no slot from low on, below high, is in the set
pub record IsClear (set : List Bool) (low high : ℕ) : Type 0 where
  pub each : (k : ℕ) → low ≤ k → k < high → get_or set k false ≡ false

-- k is the first slot from `from` on that is in the set
pub record IsNextIn (set : List Bool) (from k : ℕ) : Type 0 where
  pub low : from ≤ k
  pub high : k < length set
  pub is : get_or set k false ≡ true
  pub clear : IsClear set from k

-- k is the first slot from `from` on that is in either set
pub record IsNextInEither (one other : List Bool) (from k : ℕ) : Type 0 where
  pub low : from ≤ k
  pub high : k < length one
  pub is : (get_or one k false ≡ true) ⊎ (get_or other k false ≡ true)
  pub one_clear : IsClear one from k
  pub other_clear : IsClear other from k

-- the first slot of the set from `from` on, if there is one
abbrev pub IsNextSlot : List Bool → ℕ → Option ℕ → Type 0
IsNextSlot set from next = MatchOption next (IsClear set from (length set)) (IsNextIn set from)

-- both holds the slots of one and of other
pub record IsUnion (one other both : List Bool) : Type 0 where
  pub sized : length both ≡ length one
  pub each : (k : ℕ) → get_or both k false ≡ true
      → (get_or one k false ≡ true) ⊎ (get_or other k false ≡ true)
  pub old : (k : ℕ) → get_or one k false ≡ true → get_or both k false ≡ true
  pub new : (k : ℕ) → get_or other k false ≡ true → get_or both k false ≡ true

-- the first slot of either set from `from` on, if there is one
abbrev pub IsNextOfEither : List Bool → List Bool → ℕ → Option ℕ → Type 0
IsNextOfEither one other from next =
    MatchOption next (IsClear one from (length one) × IsClear other from (length one))
    (IsNextInEither one other from)
