-- What a table keeps, and how it agrees with the listing of its layers.
use Rattle.std.specs.Prelude.{◌≡◌, ℕ, ◌≤◌, List, [], length, map, slice_get, slice_range, nat_eq, All, Bool, Option, Some, None, unwrap_or, true, false, not, if◌then◌else◌}
use Rattle.std.specs.List.{AllByRecursion, list_any, slice_index_or}
use Rattle.std.specs.Option.{option_map_or, option_and_then}
use Rattle.romfs_format.specs.declared.attribute_row.AttributeRow.{AttributeRow}
use Rattle.romfs_reader.specs.Images.{IsImage}
use Rattle.romfs_rows.specs.Order.{position_at}
use Rattle.stack_model.specs.Listing.{Entry, IsListing, Stacked, stacked}
use Rattle.stack_model.specs.Numbers.{Place as ModelPlace, nodes, number, parent}
use Rattle.stack_model.specs.Attributes.{is_directory, kind_at, mode, mode_by, owner_by, row_in, size_at, rdev, nlink, blocks_of, blocks_all}
use Rattle.stack_model.specs.declared.attr.Attr.{Attr}
use Rattle.stack_model.specs.declared.owner.Owner.{Owner}
use Rattle.node_reader.specs.declared.node.Node.{Node}
use Rattle.node_reader.specs.declared.node.Brief.{Brief}
use Rattle.node_reader.specs.declared.stamp.Stamp.{Stamp}
use Rattle.layer_paths.specs.declared.entries.Place.{Place}
use Rattle.node_reader.specs.declared.directory.Directory.{Directory}
use Rattle.layer_names.specs.Keyed.{AreKeyed}
use Rattle.layer_names.specs.Noted.{IsNoted}
use Rattle.node_reader.specs.Rows.{names}
use Rattle.node_reader.specs.Stamps.{held_at}
use Rattle.node_reader.specs.Directories.{HeldDirectories}
use Rattle.node_reader.specs.Readers.{placed, rows_of, HoldsData}
use Rattle.node_reader.specs.Xattrs.{HeldXattrs, AreXattrsOf}

-- what is kept about a node that is a directory
abbrev pub kept_of : HeldDirectories → Node → Option Directory
kept_of directories node =
    if is_directory node.kind then slice_get directories.all node.directory else None

-- the directory with a number
abbrev pub directory_held : List Node → HeldDirectories → ℕ → Option Directory
directory_held held directories n = option_and_then (kept_of directories) (held_at held n)

-- the row of a node's place
abbrev pub row_held : List (List AttributeRow) → Node → Option AttributeRow
row_held rows node = row_in rows (placed node.place)

-- the brief attributes of a node that has this row or none
abbrev pub brief_by : Option AttributeRow → Node → Brief
brief_by row node = record {
  size = node.part.len;
  nlink = node.nlink;
  rdev = node.rdev;
  mode = mode_by row node.mode;
}

-- the owner of a row's node, and when it was changed; without a row it is this owner
abbrev pub stamp_by : Option AttributeRow → Owner → Stamp
stamp_by given owner = record {
  seconds = option_map_or (λ r. r.seconds) given 0;
  nanoseconds = option_map_or (λ r. r.nanoseconds) given 0;
  uid = (owner_by given owner).uid;
  gid = (owner_by given owner).gid;
}

-- the brief attributes of nodes
abbrev pub briefs_of : List (List AttributeRow) → List Node → List Brief
briefs_of rows held = map (λ node. brief_by (row_held rows node) node) held

-- the position of a place's row among those of its layer, counted from 0, if there is one
abbrev pub position_held : List (List AttributeRow) → Place → Option ℕ
position_held rows place = position_at (slice_index_or rows place.layer []) place.header

-- any layer has a row
abbrev pub have_rows : List (List AttributeRow) → Bool
have_rows rows = list_any (λ of_layer. not (nat_eq (length of_layer) 0)) rows

-- the stamp of the node with a number; the owner's if none is kept
abbrev pub stamp_held : List Stamp → Owner → ℕ → Stamp
stamp_held stamps owner n = unwrap_or (held_at stamps n) (stamp_by None owner)

-- each node's stamp is kept by its number, and no stamps if no layer has a row
pub record AreStampsOf (rows : List (List AttributeRow)) (owner : Owner) (held : List Node)
    (stamps : List Stamp) : Type 0 where
  pub each : (n : ℕ) (node : Node) → held_at held n ≡ Some node
      → stamp_held stamps owner n ≡ stamp_by (row_held rows node) owner
  pub none : have_rows rows ≡ false → stamps ≡ []

-- the attributes of the node with a number
abbrev pub attr_held : ℕ → Brief → Stamp → Attr
attr_held n brief stamp = record {
  ino = n;
  size = brief.size;
  blocks = blocks_of brief.size;
  seconds = stamp.seconds;
  nanoseconds = stamp.nanoseconds;
  mode = brief.mode;
  nlink = brief.nlink;
  uid = stamp.uid;
  gid = stamp.gid;
  rdev = brief.rdev;
}

-- a directory keeps the number of its parent, and its rows with their keys
pub record IsHeldDirectory (stack : Stacked) (held : HeldDirectories) (directory : Directory)
    (p : ModelPlace) : Type 0 where
  pub parent_is : directory.parent ≡ number stack.entries (parent stack.entries p)
  pub start : directory.rows_start ≤ directory.rows_end
  pub end : directory.rows_end ≤ length held.rows
  pub rows_are : slice_range held.rows directory.rows_start directory.rows_end
      ≡ rows_of stack p
  pub keyed : AreKeyed directory.shared
      (slice_range held.keys directory.rows_start directory.rows_end)
      (names (slice_range held.rows directory.rows_start directory.rows_end))

-- the directory of this node is kept, and is that of the place
pub record HoldsDirectory (stack : Stacked) (held : HeldDirectories) (node : Node) (p : ModelPlace)
    : Type 0 where
  pub directory : Directory
  pub is : slice_get held.all node.directory ≡ Some directory
  pub holds : IsHeldDirectory stack held directory p

-- the node keeps what the definitions say about its place
pub record IsNode (stack : Stacked) (directories : HeldDirectories) (node : Node) (p : ModelPlace)
    : Type 0 where
  pub place : placed node.place ≡ p
  pub holds : HoldsData stack.layers node.place.layer node p
  pub kind : node.kind ≡ kind_at stack.layers p
  pub size : node.part.len ≡ size_at stack.layers p
  pub mode_is : node.mode ≡ mode stack.layers p
  pub nlink_is : node.nlink ≡ nlink stack p
  pub rdev_is : node.rdev ≡ rdev stack.layers p
  pub directory_is : is_directory node.kind ≡ true → HoldsDirectory stack directories node p

-- the nodes in the order of their numbers, what is kept about the directories, and a key beside
-- each row
pub record AreNodes (stack : Stacked) (held : List Node) (directories : HeldDirectories)
    : Type 0 where
  pub level : length held ≡ length (nodes stack.entries)
  pub keys_level : length directories.keys ≡ length directories.rows
  pub each : (k : ℕ) (node : Node) (p : ModelPlace) → slice_get held k ≡ Some node
      → slice_get (nodes stack.entries) k ≡ Some p → IsNode stack directories node p

-- a table of the stack's layers, which are sound images, and their listing. The nodes say what
-- headers do, whatever rows there are
pub record IsTable (stack : Stacked) (held : List Node) (directories : HeldDirectories)
    (blocks : ℕ) : Type 0 where
  pub sound : AllByRecursion IsImage stack.layers
  pub listing : IsListing stack.layers stack.entries
  pub are : AreNodes (stacked stack.layers stack.entries) held directories
  pub blocks_are : blocks ≡ blocks_all stack.layers

-- the keys of each directory's rows are kept
pub record HaveKeys (held : List Node) (directories : HeldDirectories) : Type 0 where
  pub each : (n : ℕ) (d : Directory) → directory_held held directories n ≡ Some d
      → (d.rows_start ≤ d.rows_end) × (d.rows_end ≤ length directories.keys)

-- the keys of the directories with numbers up to one are noted, each under its directory's number
pub record AreNotedUpTo (held : List Node) (directories : HeldDirectories) (filter : List Bool)
    (last : ℕ) : Type 0 where
  pub each : (n : ℕ) (d : Directory) → n ≤ last → directory_held held directories n ≡ Some d
      → All (IsNoted filter n) (slice_range directories.keys d.rows_start d.rows_end)

-- what a table keeps: the attributes of its nodes once more, with the modes that rows give; the
-- stamps and the extended attributes of its nodes; and all keys are noted
pub record IsHeld (stack : Stacked) (held : List Node) (briefs : List Brief) (stamps : List Stamp)
    (xattrs : HeldXattrs) (directories : HeldDirectories) (filter : List Bool) (blocks : ℕ)
    : Type 0 where
  pub table : IsTable stack held directories blocks
  pub briefs_are : briefs ≡ briefs_of stack.rows held
  pub stamps_are : AreStampsOf stack.rows stack.owner held stamps
  pub xattrs_are : AreXattrsOf stack.rows held xattrs
  pub noted : AreNotedUpTo held directories filter (length held)

-- some listing of the layers makes it a table
abbrev pub IsSomeTable : List (List ℕ) → List Node → HeldDirectories → ℕ → Type 0
IsSomeTable layers held directories blocks =
    (entries : List Entry) × IsTable (stacked layers entries) held directories blocks
