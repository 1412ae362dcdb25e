-- Names with numbers, in an order that keeps equal names together, and classes of the numbers.
use Rattle.std.specs.Prelude.{◌≡◌, ◌≢◌, ℕ, ◌+◌, ◌-◌, ◌*◌, ◌%◌, ◌^◌, ◌<◌, ◌⊎◌, min, List, ◌∷◌, length, drop, get_or, All, Option, Some}
use Rattle.std.specs.Cmp.Lexicographic.{slice_cmp}
use Rattle.std.specs.List.{Contains}
use Rattle.std.specs.List.Sorted.{IsSorted}
use Rattle.std.specs.Ordering.{nat_cmp}
use Rattle.std.specs.declared.cmp.Ordering.{Ordering}
use Rattle.byteorder.specs.Endian.{big_number}
use Rattle.romfs_sets.specs.declared.names.NumberedName.{NumberedName}

-- two numbers of 64 bits, mixed to one
abbrev pub mixed : ℕ → ℕ → ℕ
mixed a b = ((a * 0x9e3779b97f4a7c15) % 2 ^ 64 + b) % 2 ^ 64

-- the first and the last n bytes of a name, mixed
abbrev pub ends_mixed : ℕ → List ℕ → ℕ
ends_mixed n name = mixed (big_number n name) (big_number n (drop (length name - n) name))

-- the hash of a name: its first eight and its last eight bytes, or those of a shorter name, mixed
abbrev pub name_hash : List ℕ → ℕ
name_hash name = ends_mixed (min (length name) 8) name

-- their order by names, each name after its hash
abbrev pub numbered_cmp : NumberedName → NumberedName → Ordering
numbered_cmp x y = slice_cmp nat_cmp (x.hash ∷ x.name.now) (y.hash ∷ y.name.now)

-- a number below n with its own name
pub record HasItsName (name : ℕ → Option (List ℕ)) (n : ℕ) (h : NumberedName) : Type 0 where
  pub below : h.number < n
  pub own : name h.number ≡ Some h.name.now
  pub mixed : h.hash ≡ name_hash h.name.now

-- no other number below n has the same name as this one
abbrev pub IsItsAlone : (ℕ → Option (List ℕ)) → ℕ → ℕ → Type 0
IsItsAlone name n k = (j : ℕ) → j < n → name j ≡ name k → j ≡ k

-- numbers below n, each with its name, and among them all that share their name with another
pub record HoldTheShared (name : ℕ → Option (List ℕ)) (n : ℕ)
    (named : List NumberedName) : Type 0 where
  pub each : All (HasItsName name n) named
  pub every : (k : ℕ) (q : List ℕ) → k < n → name k ≡ Some q
      → ((h : NumberedName) × Contains named h × (h.number ≡ k)) ⊎ IsItsAlone name n k

-- these in an order that keeps equal names together
pub record AreInNameOrder (name : ℕ → Option (List ℕ)) (n : ℕ)
    (named : List NumberedName) : Type 0 where
  pub are : HoldTheShared name n named
  pub sorted : IsSorted numbered_cmp named

-- the numbers below n
pub record AreNumbersBelow (n : ℕ) (numbers : List ℕ) : Type 0 where
  pub sized : length numbers ≡ n
  pub each : (k : ℕ) → k < n → get_or numbers k 0 ≡ k

-- of the numbers up to n, two have the same class exactly if both are below n and have the same
-- name
pub record AreClasses (key : ℕ → Option (List ℕ)) (n : ℕ) (class : List ℕ) : Type 0 where
  pub sized : length class ≡ n + 1
  pub below : (i : ℕ) → i < n + 1 → get_or class i 0 < n + 1
  pub only : (i j : ℕ) → i < n + 1 → j < n + 1 → i ≢ j → get_or class i 0 ≡ get_or class j 0
      → (i < n) × (j < n) × ((q : List ℕ) × (key i ≡ Some q) × (key j ≡ Some q))
  pub all : (i j : ℕ) (q : List ℕ) → i < n → j < n → key i ≡ Some q → key j ≡ Some q
      → get_or class i 0 ≡ get_or class j 0

-- no two numbers below n have the same name
pub record AreNamesApart (name : ℕ → Option (List ℕ)) (n : ℕ) : Type 0 where
  pub each : (i j : ℕ) (q : List ℕ) → i < n → j < n → name i ≡ Some q → name j ≡ Some q → i ≡ j
