-- The rows of directories in linux/fuse.h (readdir(3): . and .. come first).
use Rattle.std.specs.Prelude.{ℕ, ◌-◌, ◌/◌, ◌^◌, List, [], ◌∷◌, length, drop, Bool, false, nat_lt, nat_le, Some, None, if◌then◌else◌, codes}
use Rattle.std.specs.List.{enumerate_from}
use Rattle.fuse_wire.specs.Structures.{dirent, direntplus}
use Rattle.stack_model.specs.Listing.{Entry, Stacked}
use Rattle.stack_model.specs.Numbers.{Place, Child, number, parent, children}
use Rattle.stack_model.specs.Attributes.{mode_at, attr_of}

-- a row: its place in its directory, counted from 1, and its name with the place of its node
abbrev pub Row : Type 0
Row = ℕ × Child

-- as many of the rows as fit completely in the room, if they are written in this form
abbrev pub fitting : (Row → List ℕ) → ℕ → List Row → List Row
fitting form room [] = []
fitting form room (r ∷ rows) =
    if nat_le (length (form r)) room then r ∷ fitting form (room - length (form r)) rows else []

-- there is a first row, and it does not fit
abbrev pub is_too_small : (Row → List ℕ) → ℕ → List Row → Bool
is_too_small form room [] = false
is_too_small form room (r ∷ rows) = nat_lt room (length (form r))

-- a row that is neither . nor .., which come first
abbrev pub is_child : Row → Bool
is_child r = nat_lt 2 r.0

-- the rows of the directory at a place: itself, its parent, and its children
unfoldable pub rows : List Entry → Place → List Child
rows entries p =
    record { name = codes "."; place = p }
    ∷ record { name = codes ".."; place = parent entries p }
    ∷ children entries p

-- the rows after the first offset ones
unfoldable pub rows_after : List Entry → Place → ℕ → List Row
rows_after entries p offset = drop offset (enumerate_from 1 (rows entries p))

-- those of them that fit in a size
abbrev pub rows_answered : List Entry → (Row → List ℕ) → Place → ℕ → ℕ → List Row
rows_answered entries form p offset size = fitting form size (rows_after entries p offset)

module _ (stack : Stacked) where
  -- a row of READDIR: off is its place, and its type the upper bits of the node's mode
  unfoldable pub dirent_of : Row → List ℕ
  dirent_of r =
      dirent (number stack.entries r.1.place) r.0 (mode_at stack r.1.place / 2 ^ 12) r.1.name

  -- the same for READDIRPLUS, with the node's entry; . and .. have none
  unfoldable pub direntplus_of : Row → List ℕ
  direntplus_of r =
      direntplus (if is_child r then Some (attr_of stack r.1.place) else None)
      (number stack.entries r.1.place) r.0 (mode_at stack r.1.place / 2 ^ 12) r.1.name
