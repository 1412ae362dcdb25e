-- Rows of a directory, from a table.
use Rattle.std.specs.Prelude.{◌≡◌, ℕ, ◌+◌, ◌-◌, ◌/◌, ◌^◌, ◌≤◌, ◌<◌, ◌==◌, ◌&&◌, min, MatchOption, IfSome, length, List, [], ◌∷◌, ◌++◌, replicate, map, take, drop, filter, Bool, nat_lt, nat_le, slice_get, slice_index, Option, Some, None, pos, codes, if◌then◌else◌}
use Rattle.std.specs.List.{enumerate_from, flat_map}
use Rattle.std.specs.Option.{option_map_or}
use Rattle.fuse_wire.specs.declared.limits.TheConstants.{MAX_DATA_SIZE}
use Rattle.fuse_wire.specs.Structures.{dirent, direntplus, dirent_size}
use Rattle.fuse_wire.specs.Requests.{NodeOp, readdir, readdirplus}
use Rattle.node_reader.specs.Rows.{Line}
use Rattle.stack_model.specs.Listing.{Stacked}
use Rattle.node_reader.specs.Readers.{attr_at, parent_at, rows_at}
use Rattle.reply_model.specs.declared.moves.Move.{Move}
use Rattle.fuse_answer.specs.declared.listing.Listing.{Listing}

-- a row with its place in its directory, from 1 on
abbrev pub NumberedLine : Type 0
NumberedLine = ℕ × Line

-- the type of a node in a row
abbrev pub type_at : Stacked → ℕ → ℕ
type_at stack n = option_map_or (λ a. a.mode / 2 ^ 12) (attr_at stack n) 0

-- all rows of the directory of a listing
abbrev pub lines_of : {A : Type 0} → Listing A → List NumberedLine
lines_of l =
    enumerate_from 1 (record { number = l.number; name = codes "." } ∷ record {
      number =
          l.parent;
      name = codes "..";
    } ∷ l.children.now)

-- there is a row with this index, and its place is a number of 64 bits
abbrev pub IsRow : {A : Type 0} → Listing A → ℕ → Type 0
IsRow l index = (index < 2 + length l.children.now) × (index + 1 < 2 ^ 64)

-- the row with an index has this number and this name
abbrev pub IsLineAt : {A : Type 0} → Listing A → ℕ → ℕ → List ℕ → Type 0
IsLineAt l index number name =
    slice_get (lines_of l) index ≡ Some (index + 1, record { number = number; name = name })

-- these are the bytes of the name of the row with an index, padded with zeros to 22
abbrev pub IsPaddedAt : {A : Type 0} → Listing A → ℕ → List ℕ → Type 0
IsPaddedAt l index padded =
    IfSome (slice_get (lines_of l) index) (λ r. (length r.1.name ≤ 22)
    × (padded ≡ r.1.name ++ replicate (22 - length r.1.name) 0))

-- the bytes of a row whose name has n bytes
abbrev pub row_size : Bool → ℕ → ℕ
row_size with_entries n = dirent_size n + (if with_entries then 128 else 0)

-- how many pieces of these sizes fit completely in the room, one after another
abbrev pub fit_count : ℕ → List ℕ → ℕ
fit_count room [] = 0
fit_count room (n ∷ sizes) = if nat_le n room then 1 + fit_count (room - n) sizes else 0

-- how many bytes these take
abbrev pub fit_size : ℕ → List ℕ → ℕ
fit_size room [] = 0
fit_size room (n ∷ sizes) = if nat_le n room then n + fit_size (room - n) sizes else 0

-- the lengths of the names of a directory's rows: of . and .., and of its children
abbrev pub name_lengths : List Line → List ℕ
name_lengths children = 1 ∷ 2 ∷ map (λ line. length line.name) children

-- the bytes of each of a directory's rows
abbrev pub row_sizes : Bool → List Line → List ℕ
row_sizes with_entries children = map (row_size with_entries) (name_lengths children)

-- the index up to which a listing answers rows: as many as fit completely in its room
unfoldable pub until_of : {A : Type 0} → Listing A → ℕ
until_of l =
    l.from + fit_count l.room (drop l.from (row_sizes l.with_entries l.children.now))

-- how many bytes these take
unfoldable pub size_of : {A : Type 0} → Listing A → ℕ
size_of l = fit_size l.room (drop l.from (row_sizes l.with_entries l.children.now))

-- the rows that it answers
abbrev pub lines_answered : {A : Type 0} → Listing A → List NumberedLine
lines_answered l = take (until_of l - l.from) (drop l.from (lines_of l))

-- a row that is neither . nor ..
abbrev pub is_child_line : NumberedLine → Bool
is_child_line r = nat_lt 2 r.0

-- a row's bytes
abbrev pub line_bytes : Stacked → Bool → NumberedLine → List ℕ
line_bytes stack plus r =
    if plus
    then direntplus (if is_child_line r then attr_at stack r.1.number else None) r.1.number r.0
    (type_at stack r.1.number) r.1.name
    else dirent r.1.number r.0 (type_at stack r.1.number) r.1.name

-- the lookups that rows give: one of each node, except for . and ..
abbrev pub lines_given : List NumberedLine → List Move
lines_given lines =
    map (λ r. record { node = r.1.number; amount = pos 1 }) (filter is_child_line lines)

-- the lookup that the row with an index gives
abbrev pub row_given : {A : Type 0} → Listing A → ℕ → List Move
row_given l index = option_map_or (λ r. lines_given (r ∷ [])) (slice_get (lines_of l) index) []

-- the bytes of the row with an index
abbrev pub row_bytes_at : {A : Type 0} → Stacked → Listing A → ℕ → List ℕ
row_bytes_at stack l index =
    option_map_or (line_bytes stack l.with_entries) (slice_get (lines_of l) index) []

-- the bytes of the rows of a listing before an index
abbrev pub bytes_before : {A : Type 0} → Stacked → Listing A → ℕ → List ℕ
bytes_before stack l index =
    flat_map (line_bytes stack l.with_entries) (take (index - l.from) (drop l.from (lines_of l)))

-- the bytes of the rows that a listing answers
abbrev pub listed_data : {A : Type 0} → Stacked → Listing A → List ℕ
listed_data stack l = flat_map (line_bytes stack l.with_entries) (lines_answered l)

-- the lookups that they give, if they have entries
abbrev pub listed_moves : {A : Type 0} → Listing A → List Move
listed_moves l = if l.with_entries then lines_given (lines_answered l) else []

-- the lookups that the rows before an index give, if they have entries
abbrev pub moves_before : {A : Type 0} → Listing A → ℕ → List Move
moves_before l index =
    if l.with_entries then lines_given (take (index - l.from) (drop l.from (lines_of l))) else []

-- READDIRPLUS, or READDIR
abbrev pub listing_op : Bool → ℕ → ℕ → NodeOp
listing_op with_entries offset size =
    if with_entries then readdirplus offset size else readdir offset size

-- the bytes of a row, if there is room for them
abbrev pub RowSize : Bool → ℕ → ℕ → Option ℕ → Type 0
RowSize with_entries name room result =
    MatchOption result (room < row_size with_entries name) (λ n. (n ≡ row_size with_entries name)
    × (n ≤ room))

-- the rows from an index on that fit in a size: up to this index, and with this many bytes
pub record Fits (with_entries : Bool) (children : List Line)
    (from size until bytes : ℕ) : Type 0 where
  pub until_is : until ≡ from + fit_count size (drop from (row_sizes with_entries children))
  pub bytes_are : bytes ≡ fit_size size (drop from (row_sizes with_entries children))
  pub within : until ≤ 2 + length children
  pub small : bytes ≤ size

-- there is a row with this index, and it fits in the room
abbrev pub fits_at : {A : Type 0} → Listing A → ℕ → ℕ → Bool
fits_at l index room =
    nat_lt index (2 + length l.children.now)
    && nat_le (row_size l.with_entries (slice_index (name_lengths l.children.now) index)) room

-- a row remains, and not even one fits
abbrev pub is_cut_short : {A : Type 0} → Listing A → Bool
is_cut_short l = until_of l == l.from && nat_lt l.from (2 + length l.children.now)

-- the rows of the directory with this number after the first offset ones, as many as fit in a size
pub record AreListed {A : Type 0} (stack : Stacked) (node offset size : ℕ) (with_entries : Bool)
    (l : Listing A) : Type 0 where
  pub entries_are : l.with_entries ≡ with_entries
  pub node_is : l.number ≡ node
  pub parent_is : parent_at stack node ≡ Some l.parent
  pub children_are : l.children.now ≡ rows_at stack node
  pub from_is : l.from ≡ min offset (2 + length l.children.now)
  pub room_is : l.room ≡ size

-- they are listed; none if the number is not a directory's
abbrev pub ListsRows : {A : Type 0} → Stacked → ℕ → ℕ → ℕ → Bool → Option (Listing A) → Type 0
ListsRows stack node offset size with_entries result =
    MatchOption result (parent_at stack node ≡ None) (AreListed stack node offset size with_entries)

-- a listing begins in bounds, and its room is no larger than a request's may be
pub record IsWhole {A : Type 0} (l : Listing A) : Type 0 where
  pub within : l.from ≤ 2 + length l.children.now
  pub small : l.room ≤ MAX_DATA_SIZE
