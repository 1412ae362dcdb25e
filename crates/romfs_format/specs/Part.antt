-- Version 2 of the attribute trailer: after its rows a part with lists of extended attributes.
use Rattle.std.specs.Prelude.{◌≡◌, ℕ, zero, suc, ◌+◌, ◌*◌, ◌-◌, ◌%◌, ◌^◌, ◌≤◌, ◌&&◌, Bool, List, [], ◌∷◌, length, take, drop, nat_le, nat_lt, IsTrue}
use Rattle.romfs_format.specs.declared.limits.TheConstants.{PART_HEAD_SIZE}
use Rattle.romfs_format.specs.Fields.{word, word_sum}
use Rattle.romfs_format.specs.Below.{holds_below}
use Rattle.romfs_format.specs.Extended.{Extended, is_list, agrees}

-- y is the bytes of the lists. They begin with words: how many lists there are, where each begins,
-- and where names and values begin.

-- word k
abbrev pub table_word : List ℕ → ℕ → ℕ
table_word y k = word y (4 * k)

-- how many lists there are
abbrev pub list_count : List ℕ → ℕ
list_count y = table_word y 0

-- the first attribute of list j, both counted from 0 on
abbrev pub first_of : List ℕ → ℕ → ℕ
first_of y j = table_word y (j + 1)

-- how many attributes all lists have together: the word after the last list's first attribute
abbrev pub attribute_count : List ℕ → ℕ
attribute_count y = first_of y (list_count y)

-- where name or value k begins and the one before it ends: the name of attribute i is 2 * i
abbrev pub edge : List ℕ → ℕ → ℕ
edge y k = table_word y (list_count y + 2 + k)

-- how many words there are
abbrev pub table_size : List ℕ → ℕ
table_size y = list_count y + 2 + (2 * attribute_count y + 1)

-- name or value k
unfoldable pub piece : List ℕ → ℕ → List ℕ
piece y k = take (edge y (k + 1) - edge y k) (drop (edge y k) y)

-- attribute i
abbrev pub attribute : List ℕ → ℕ → Extended
attribute y i = record { name = piece y (2 * i); value = piece y (2 * i + 1) }

-- this many attributes from this one on
abbrev pub attributes : List ℕ → ℕ → ℕ → List Extended
attributes y i zero = []
attributes y i (suc m) = attribute y i ∷ attributes y (suc i) m

-- list j
unfoldable pub list_of : List ℕ → ℕ → List Extended
list_of y j = attributes y (first_of y j) (first_of y (j + 1) - first_of y j)

-- the list with this number, counted from 1; 0 is the empty list
abbrev pub numbered : List ℕ → ℕ → List Extended
numbered y zero = []
numbered y (suc j) = list_of y j

-- the places that the words give are in order and inside
pub record AreTables (y : List ℕ) : Type 0 where
  pub firsts_fit : 4 * (list_count y + 2) ≤ length y
  pub from_zero : first_of y 0 ≡ 0
  pub firsts_rise : IsTrue (holds_below (list_count y)
      (λ j. nat_lt (first_of y j) (first_of y (j + 1))))
  pub edges_fit : 4 * table_size y ≤ length y
  pub edges_rise : IsTrue (holds_below (2 * attribute_count y)
      (λ k. nat_le (edge y k) (edge y (k + 1))))
  pub inside : edge y (2 * attribute_count y) ≤ length y

-- and each list is one that a file may have
pub record AreLists (y : List ℕ) : Type 0 where
  pub tables : AreTables y
  pub each : IsTrue (holds_below (list_count y) (λ j. is_list (list_of y j)))

-- x is all bytes from the end of the rows on, and n is the number of rows

-- how many bytes the part has
abbrev pub part_size : List ℕ → ℕ
part_size x = word x 8

-- the bytes that its sum covers
unfoldable pub part_bytes : List ℕ → List ℕ
part_bytes x = take (part_size x) x

-- where the lists begin: after a word for each row
abbrev pub lists_start : ℕ → ℕ
lists_start n = PART_HEAD_SIZE + 4 * n

-- the bytes of the lists
unfoldable pub lists_in : ℕ → List ℕ → List ℕ
lists_in n x = drop (lists_start n) (part_bytes x)

-- the number of the list of row i; 0 for none
abbrev pub list_number : List ℕ → ℕ → ℕ
list_number x i = word x (PART_HEAD_SIZE + 4 * i)

-- row i leads to one of the lists, which agrees with its mode
abbrev pub leads : ℕ → (ℕ → ℕ) → List ℕ → ℕ → Bool
leads n mode x i =
    nat_le (list_number x i) (list_count (lists_in n x))
    && agrees (mode i) (numbered (lists_in n x) (list_number x i))

-- the part is not cut off, its words sum to 0, and there is room for the rows' words and for the
-- number of lists
pub record IsFramed (n : ℕ) (x : List ℕ) : Type 0 where
  pub head : PART_HEAD_SIZE ≤ length x
  pub whole : part_size x ≤ length x
  pub words : part_size x % 4 ≡ 0
  pub sum : word_sum (part_bytes x) % 2 ^ 32 ≡ 0
  pub rows_fit : lists_start n + 4 ≤ part_size x

-- the part keeps its rule, after rows of these modes: its lists are right, and the rows lead there
pub record IsPart (n : ℕ) (mode : ℕ → ℕ) (x : List ℕ) : Type 0 where
  pub frame : IsFramed n x
  pub lists : AreLists (lists_in n x)
  pub rows : IsTrue (holds_below n (leads n mode x))
