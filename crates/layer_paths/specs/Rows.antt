-- Trees as rows: a value at each path. Names are lists of bytes, and a path is the list of names
-- from the root.
use Rattle.std.specs.Prelude.{◌≡◌, ℕ, ◌+◌, ◌<◌, ◌≤◌, List, [], ◌∷◌, ◌++◌, length, max, Bool, Option, Some, None, MatchOption, nat_eq, slice_index_or, if◌then◌else◌}
use Rattle.std.specs.Borrow.{Bor}
use Rattle.std.specs.Cmp.Lexicographic.{slice_cmp, pointwise}
use Rattle.std.specs.Ordering.{nat_cmp}
use Rattle.std.specs.List.{AllByRecursion, AllWithin}
use Rattle.std.specs.declared.cmp.Ordering.{Ordering}
use Rattle.std.specs.declared.cmp.Ordering.TheVariants.{Less, Greater}
use Rattle.std.proofs.Common.{arith, length-append}
use denote.Param.Weighed.{most}

-- paths, each with a value
abbrev pub Rows : Type 0 → Type 0
Rows T = List (List (List ℕ) × T)

-- a branch: its name, its value, and the rows below it by their paths from it
pub record Subtree (T : Type 0) : Type 0 where
  pub name : List ℕ
  pub value : T
  pub below : List (List (List ℕ) × T)

-- the rows, each path beginning with the name n
abbrev pub prefixed : {T : Type 0} → List ℕ → List (List (List ℕ) × T) → List (List (List ℕ) × T)
prefixed n [] = []
prefixed n (x ∷ xs) = (n ∷ x.0, x.1) ∷ prefixed n xs

-- the rows of branches, one after another, each path beginning with its branch's name
abbrev pub spread : {T : Type 0} → List (Subtree T) → List (List (List ℕ) × T)
spread [] = []
spread (s ∷ ss) = (s.name ∷ [], s.value) ∷ prefixed s.name s.below ++ spread ss

-- the branch's own row and those below it
abbrev pub whole : {T : Type 0} → Subtree T → List (List (List ℕ) × T)
whole s = ([], s.value) ∷ s.below

-- in the order of their bytes
abbrev pub name_cmp : List ℕ → List ℕ → Ordering
name_cmp = slice_cmp nat_cmp

-- the names rise
abbrev pub NamesRise : {T : Type 0} → List (Subtree T) → Type 0
NamesRise [] = Unit {0}
NamesRise (s ∷ ss) = AllByRecursion (λ t. name_cmp s.name t.name ≡ Less) ss × NamesRise ss

-- the paths rise: by names, a path before its extensions
abbrev pub PathsRise : {T : Type 0} → List (List (List ℕ) × T) → Type 0
PathsRise [] = Unit {0}
PathsRise (x ∷ xs) = AllByRecursion (λ y. slice_cmp name_cmp x.0 y.0 ≡ Less) xs × PathsRise xs

-- the paths of a branch rise
pub record IsRising {T : Type 0} (s : Subtree T) : Type 0 where
  pub rises : PathsRise (whole s)

-- branches in the order of their names, each with rising paths
pub record IsForest {T : Type 0} (ss : List (Subtree T)) : Type 0 where
  pub names : NamesRise ss
  pub each : AllByRecursion IsRising ss

-- the first branch with that name
abbrev pub named : {T : Type 0} → List ℕ → List (Subtree T) → Option (Subtree T)
named n [] = None
named n (s ∷ ss) = if pointwise nat_eq s.name n then Some s else named n ss

-- it is found; none if no branch has the name
abbrev pub IsFirstNamed : {T : Type 0} → List ℕ → List (Subtree T) → Option (Bor (Subtree T))
    → Type 0
IsFirstNamed n ss found = MatchOption found (named n ss ≡ None) (λ c. named n ss ≡ Some c.now)

-- the branch at i has that name
abbrev pub IsPlaceOf : {T : Type 0} → List ℕ → List (Subtree T) → ℕ → Type 0
IsPlaceOf {T} n ss i = (i < length ss) × ((d : Subtree T) → (slice_index_or ss i d).name ≡ n)

-- the branches before i have lesser names, and those from i on greater ones
abbrev pub IsParted : {T : Type 0} → List ℕ → List (Subtree T) → ℕ → Type 0
IsParted n ss i = AllWithin (λ s. name_cmp s.name n ≡ Less) ss 0 i
    × AllWithin (λ s. name_cmp s.name n ≡ Greater) ss i (length ss)

-- no branch has that name, which would be at i
abbrev pub IsGapFor : {T : Type 0} → List ℕ → List (Subtree T) → ℕ → Type 0
IsGapFor n ss i = (i ≤ length ss) × IsParted n ss i

-- two lists of names are the same
abbrev pub equal_names : List (List ℕ) → List (List ℕ) → Bool
equal_names = pointwise (pointwise nat_eq)

-- the value of the first row at the path
abbrev pub at_path : {T : Type 0} → List (List (List ℕ) × T) → List (List ℕ) → Option T
at_path [] path = None
at_path (x ∷ xs) path = if equal_names x.0 path then Some x.1 else at_path xs path

-- these rows are those that the others have at the path and below it, by paths from it
pub record IsUnder {T : Type 0} (rows : List (List (List ℕ) × T)) (path : List (List ℕ))
    (under : List (List (List ℕ) × T)) : Type 0 where
  pub at : (q : List (List ℕ)) → at_path rows (path ++ q) ≡ at_path under q

-- if a name is put before each path there are as many rows
pub length_prefixed : {T : Type 0} (n : List ℕ) (xs : List (List (List ℕ) × T))
    → length (prefixed n xs) ≡ length xs
length_prefixed n [] = omega arith
length_prefixed n (x ∷ xs) = omega (arith, length_prefixed n xs)

-- a branch has more below it than each of its branches
most_le_spread : {T : Type 0} (ss : List (Subtree T))
    → most (λ s. length s.below + 1) ss ≤ length (spread ss)
most_le_spread [] = omega arith
most_le_spread (s ∷ ss) =
    omega (
      arith,
      most_le_spread ss,
      length-append (prefixed s.name s.below) (spread ss),
      length_prefixed s.name s.below,
    )

-- each branch of a directory has fewer rows below it than the directory has
pub falls : {T : Type 0} (ss : List (Subtree T))
    → max (most (λ s. length s.below + 1) ss) 0 ≤ length (spread ss)
falls ss = omega (arith, most_le_spread ss)
