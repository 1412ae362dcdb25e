-- Lists of positions.
use Rattle.std.specs.Prelude.{ℕ, suc, ◌+◌, ◌≤◌, List, [], ◌∷◌, ◌++◌, if◌then◌else◌, ◌==◌, nat_lt, count_by, filter}
use Rattle.std.specs.List.Sorted.{IsPermutation}

-- how often a position occurs in the list
abbrev pub times : ℕ → List ℕ → ℕ
times position positions = count_by (λ other. other == position) positions

-- the numbers among the positions: those below the total
abbrev pub numbers : ℕ → List ℕ → List ℕ
numbers total positions = filter (λ position. nat_lt position total) positions

-- two lists have no position in common, nor one twice, and the third has those of both
pub record Unites (mine others all : List ℕ) : Type 0 where
  pub apart : (position : ℕ) → times position mine + times position others ≤ 1
  pub both : IsPermutation (mine ++ others) all

-- the list rises, from low on and below high
abbrev pub RisesWithin : ℕ → List ℕ → ℕ → Type 0
RisesWithin low [] high = low ≤ high
RisesWithin low (x ∷ xs) high = (low ≤ x) × RisesWithin (suc x) xs high

-- a rising list with x at its place
abbrev pub inserted : ℕ → List ℕ → List ℕ
inserted x [] = x ∷ []
inserted x (y ∷ ys) = if nat_lt x y then x ∷ y ∷ ys else y ∷ inserted x ys

-- the positions of two rising lists, rising
abbrev pub merged : List ℕ → List ℕ → List ℕ
merged [] ys = ys
merged (x ∷ xs) ys = inserted x (merged xs ys)
