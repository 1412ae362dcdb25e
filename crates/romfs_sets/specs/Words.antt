-- A number for each slot of a set.
use Rattle.std.specs.Prelude.{ℕ, List, length, map, Bool, false, cond, get_or}
use Rattle.std.specs.List.{range_with_len}
use Rattle.romfs_sets.specs.Sets.{rank}

-- the slots of a set, and by slot the number that each has; 0 for a slot that is not in the set
pub record Words : Type 0 where
  pub slots : List Bool
  pub by_slot : List ℕ

-- the number of slot k, if those of the set are numbered in order
abbrev pub word_at : List Bool → List ℕ → ℕ → ℕ
word_at set words k = cond (get_or set k false) (get_or words (rank set k) 0) 0

-- the numbers by slot
unfoldable pub words_by_slot : List Bool → List ℕ → List ℕ
words_by_slot set words = map (word_at set words) (range_with_len 0 (length set))
