-- The extended attributes of an image's rows, as they are kept.
use Rattle.std.specs.Prelude.{◌≡◌, ℕ, zero, suc, ◌<◌, ◌≤◌, List, [], ◌∷◌, ◌++◌, length, map, replicate, true, All}
use Rattle.romfs_format.specs.Extended.{Extended, is_list}
use Rattle.romfs_format.specs.Part.{list_count, list_number, numbered, AreTables, AreLists}

-- the list of each row: the list with its number, among those of the bytes, and none for the rows
-- without a number, which come last
abbrev pub lists_told : List ℕ → List ℕ → ℕ → List (List Extended)
lists_told bytes numbers bare = map (numbered bytes) numbers ++ replicate bare []

-- the bytes are lists that files may have, if any row has a number, and each number is one of
-- theirs
pub record AreKeptLists (bytes numbers : List ℕ) : Type 0 where
  pub lists : 0 < length numbers → AreLists bytes
  pub each : All (λ n. n ≤ list_count bytes) numbers

-- the numbers of the first n rows' lists, in the second part of a trailer
abbrev pub numbers_of : List ℕ → ℕ → List ℕ
numbers_of x zero = []
numbers_of x (suc n) = numbers_of x n ++ list_number x n ∷ []

-- the list with this number among those of these bytes is one that a file may have
pub record IsFileList (bytes : List ℕ) (number : ℕ) : Type 0 where
  pub tables : AreTables bytes
  pub above : 0 < number
  pub there : number ≤ list_count bytes
  pub right : is_list (numbered bytes number) ≡ true
