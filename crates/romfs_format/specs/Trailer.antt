-- The attribute trailer: owners, modes, times and extended attributes of an image's files, after
-- its full size, where no reader of romfs looks.
use Rattle.std.specs.Prelude.{◌≡◌, ℕ, zero, suc, ◌+◌, ◌*◌, ◌%◌, ◌^◌, ◌<◌, ◌≤◌, ◌==◌, ◌&&◌, Bool, List, [], ◌∷◌, ◌++◌, length, take, drop, Option, Some, None, nat_eq, nat_lt, codes, IsTrue, if◌then◌else◌}
use Rattle.std.specs.List.{starts_with}
use Rattle.byteorder.specs.Endian.{big_number}
use Rattle.romfs_format.specs.declared.limits.TheConstants.{TRAILER_HEAD_SIZE, ROW_SIZE, MAX_MODE, SECOND}
use Rattle.romfs_format.specs.declared.attribute_row.AttributeRow.{AttributeRow}
use Rattle.romfs_format.specs.declared.rule.Profile.{Profile}
use Rattle.romfs_format.specs.Fields.{word, padded, word_sum}
use Rattle.romfs_format.specs.Profiles.{reads_attributes}
use Rattle.romfs_format.specs.Extended.{Extended}
use Rattle.romfs_format.specs.Part.{list_number, lists_in, numbered, IsPart}

-- b is all bytes of an image, and t those from the start of its trailer on. Numbers are big-endian,
-- as in the image.

-- a trailer begins at the first multiple of 16 at or after the full size
abbrev pub trailer_at : List ℕ → ℕ
trailer_at b = padded (word b 8)

-- the bytes from there on
unfoldable pub trailer : List ℕ → List ℕ
trailer b = drop (trailer_at b) b

-- b has a trailer: that place is below 2 ^ 32, and has these letters
abbrev pub has_trailer : List ℕ → Bool
has_trailer b =
    nat_lt (trailer_at b) (2 ^ 32) && starts_with nat_eq (trailer b) (codes "-attr01-")

-- b has one
abbrev pub HasTrailer : List ℕ → Type 0
HasTrailer b = IsTrue (has_trailer b)

-- how many rows it has: the word after the letters
abbrev pub row_count : List ℕ → ℕ
row_count t = word t 8

-- the start of row i, from 0 on
abbrev pub row_start : ℕ → ℕ
row_start i = TRAILER_HEAD_SIZE + ROW_SIZE * i

-- the end of a trailer: after its last row
abbrev pub trailer_end : List ℕ → ℕ
trailer_end t = row_start (row_count t)

-- the bytes that its sum covers
unfoldable pub trailer_bytes : List ℕ → List ℕ
trailer_bytes t = take (trailer_end t) t

-- the number in the eight bytes at p
unfoldable pub long_word : List ℕ → ℕ → ℕ
long_word b p = big_number 8 (drop p b)

-- what row i says
abbrev pub row_of : List ℕ → ℕ → AttributeRow
row_of t i = record {
  place = word t (row_start i);
  mode = word t (row_start i + 4);
  uid = word t (row_start i + 8);
  gid = word t (row_start i + 12);
  seconds = long_word t (row_start i + 16);
  nanoseconds = word t (row_start i + 24);
}

-- row i is right in an image of this full size: its offset is a multiple of 16 inside the image,
-- its mode has 12 bits, its nanoseconds are less than a second, and its last word is 0
pub record IsRow (full : ℕ) (t : List ℕ) (i : ℕ) : Type 0 where
  pub aligned : (row_of t i).place % 16 ≡ 0
  pub inside : (row_of t i).place < full
  pub mode : (row_of t i).mode ≤ MAX_MODE
  pub nanoseconds : (row_of t i).nanoseconds < SECOND
  pub last : word t (row_start i + 28) ≡ 0

-- the first n rows are right, and rise strictly by offset
pub record AreRows (full : ℕ) (t : List ℕ) (n : ℕ) : Type 0 where
  pub each : (i : ℕ) → i < n → IsRow full t i
  pub rising : (i j : ℕ) → i < j → j < n → (row_of t i).place < (row_of t j).place

-- the bytes after the rows
unfoldable pub part : List ℕ → List ℕ
part t = drop (trailer_end t) t

-- t is of version 2: its rows are followed by these letters
abbrev pub has_part : List ℕ → Bool
has_part t = starts_with nat_eq (part t) (codes "-attr02-")

-- the mode that row i says
abbrev pub mode_of : List ℕ → ℕ → ℕ
mode_of t i = (row_of t i).mode

-- the trailer keeps its rule: it is not cut off, its words sum to 0, its rows are right, and so is
-- the part after them, if there is one
pub record IsTrailer (full : ℕ) (t : List ℕ) : Type 0 where
  pub whole : trailer_end t ≤ length t
  pub sum : word_sum (trailer_bytes t) % 2 ^ 32 ≡ 0
  pub rows : AreRows full t (row_count t)
  pub part : IsTrue (has_part t) → IsPart (row_count t) (mode_of t) (part t)

-- b has a trailer that does not keep its rule
abbrev pub IsTrailerBroken : List ℕ → Type 0
IsTrailerBroken b = HasTrailer b × ¬ IsTrailer (word b 8) (trailer b)

-- the first n rows of a trailer
abbrev pub first_rows : List ℕ → ℕ → List AttributeRow
first_rows t zero = []
first_rows t (suc n) = first_rows t n ++ row_of t n ∷ []

-- the rows of the trailer of b; none if it has none
abbrev pub rows : List ℕ → List AttributeRow
rows b = if has_trailer b then first_rows (trailer b) (row_count (trailer b)) else []

-- the extended attributes of row i
abbrev pub extended_of : List ℕ → ℕ → List Extended
extended_of t i =
    if has_part t
    then numbered (lists_in (row_count t) (part t)) (list_number (part t) i)
    else []

-- those of the first n rows
abbrev pub first_lists : List ℕ → ℕ → List (List Extended)
first_lists t zero = []
first_lists t (suc n) = first_lists t n ++ extended_of t n ∷ []

-- a list of extended attributes for each row of b
abbrev pub lists : List ℕ → List (List Extended)
lists b = if has_trailer b then first_lists (trailer b) (row_count (trailer b)) else []

-- the rows of b that a profile shows
abbrev pub rows_shown : Profile → List ℕ → List AttributeRow
rows_shown profile b = if reads_attributes profile then rows b else []

-- the row for the header at p
abbrev pub row_at : List AttributeRow → ℕ → Option AttributeRow
row_at [] p = None
row_at (x ∷ xs) p = if x.place == p then Some x else row_at xs p

-- the lists of b that a profile shows
abbrev pub lists_shown : Profile → List ℕ → List (List Extended)
lists_shown profile b = if reads_attributes profile then lists b else []

-- the list of extended attributes for the header at p
abbrev pub list_at : List AttributeRow → List (List Extended) → ℕ → List Extended
list_at (x ∷ xs) (ys ∷ yss) p = if x.place == p then ys else list_at xs yss p
list_at _ _ p = []
