-- The places of a tree's branches among its rows.
use Rattle.std.specs.Prelude.{◌≡◌, ℕ, ◌+◌, ◌-◌, List, [], ◌∷◌, ◌++◌, length, map, take, find, Bool, true, false, ◌&&◌, Some, slice_get, slice_index}
use Rattle.std.specs.Borrow.{Bor}
use Rattle.std.specs.List.{AllByRecursion}
use Rattle.std.specs.Option.{option_map}
use Rattle.stack_model.specs.Stack.{Path}
use Rattle.stack_model.specs.Numbers.{same_name, same_path}
use Rattle.layer_paths.specs.Rows.{Subtree, Rows, whole}
use Rattle.node_table.specs.declared.walk.Walked.{Walked}

-- a branch, borrowed
abbrev pub Visit : Type 0 → Type 0
Visit T = Bor (Subtree T)

-- the rows, each path beginning with the path top
abbrev pub under : {T : Type 0} → Path → Rows T → Rows T
under top rows = map (λ row. (top ++ row.0, row.1)) rows

-- whether a path begins with the path top
abbrev pub extends : Path → Path → Bool
extends [] path = true
extends (n ∷ top) [] = false
extends (n ∷ top) (m ∷ path) = same_name n m && extends top path

-- no path of the rows begins with the path top
abbrev pub IsApart : {T : Type 0} → Path → Rows T → Type 0
IsApart top rows = AllByRecursion (λ row. extends top row.0 ≡ false) rows

-- the rows of a branch are among the rows from j on, below some path, and no other row is below
-- that path
pub record IsLocated {T : Type 0} (rows : Rows T) (j : ℕ) (branch : Subtree T)
    (above : T) : Type 0 where
  pub top : Path
  pub before : Rows T
  pub after : Rows T
  pub is : rows ≡ before ++ under top (whole branch) ++ after
  pub at : length before ≡ j
  pub apart_before : IsApart top before
  pub apart_after : IsApart top after
  pub above_is : option_map (λ row. row.1)
      (find (λ row. same_path (take (length top - 1) top) row.0) rows) ≡ Some above

-- how many rows the branch has with everything below it
abbrev pub visit_size : {T : Type 0} → Visit T → ℕ
visit_size visit = length (whole visit.now)

-- a branch with this value is at this place
pub record StandsAt {T : Type 0} (visits : List (Visit T)) (place : ℕ) (value : T) : Type 0 where
  pub visit : Visit T
  pub is : slice_get visits place ≡ Some visit
  pub value_is : visit.now.value ≡ value

-- the rows of a branch are among the rows from j on, and its parent is at this place
pub record IsBelow {T : Type 0} (rows : Rows T) (j : ℕ) (branch : Subtree T)
    (visits : List (Visit T)) (place : ℕ) : Type 0 where
  pub above : T
  pub located : IsLocated rows j branch above
  pub stands : StandsAt visits place above

-- the visits are the branch and everything below it, in the order of their rows, and the parent of
-- each is at its place among all
pub record AreWalked {T : Type 0} (branch : Subtree T) (place : ℕ) (all visits : List (Visit T))
    (above : List ℕ) : Type 0 where
  pub level : length visits ≡ length (whole branch)
  pub placed : length above ≡ length visits
  pub each : (rows : Rows T) (j : ℕ) → IsBelow rows j branch all place → (k : ℕ) (visit : Visit T)
      → slice_get visits k ≡ Some visit → IsBelow rows (j + k) visit.now all (slice_index above k)

-- branches in the order of their paths, the place of each parent, and the size of each with
-- everything below it
pub record Walk (T : Type 0) : Type 0 where
  pub visits : List (Visit T)
  pub above : List ℕ
  pub sizes : List ℕ

-- those that the code keeps
abbrev pub walk_of : {T A : Type 0} → Walked T A → Walk T
walk_of walked = record {
  visits = walked.visits.items;
  above = walked.above.items;
  sizes = walked.sizes.items;
}

-- none
abbrev pub no_walk : {T : Type 0} → Walk T
no_walk = record { visits = []; above = []; sizes = [] }

-- a branch and everything below it are added at the end
pub record AddsWalk {T : Type 0} (branch : Subtree T) (place : ℕ) (old new : Walk T)
    : Type 0 where
  pub visits : List (Visit T)
  pub is : new.visits ≡ old.visits ++ visits
  pub first : StandsAt new.visits (length old.visits) branch.value
  pub more : List ℕ
  pub above_are : new.above ≡ old.above ++ more
  pub walked : AreWalked branch place new.visits visits more
  pub sizes_are : new.sizes ≡ old.sizes ++ map visit_size visits
