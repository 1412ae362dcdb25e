-- Attributes of a place, as in Linux's stat, its extended attributes (xattr(7)), and its data: what
-- its header says, and what a row of its layer's trailer says.
use Rattle.std.specs.Prelude.{ℕ, ◌+◌, ◌-◌, ◌*◌, ◌/◌, ◌%◌, ◌^◌, List, [], min, Bool, Option, None, Some, take, drop, sum_by, count_by, slice_index_or, bit_and, bit_or, if◌then◌else◌, true, false, not, nat_eq}
use Rattle.std.specs.List.{list_any}
use Rattle.std.specs.Option.{option_map_or}
use Rattle.romfs_format.specs.declared.head.Kind.{Kind}
use Rattle.romfs_format.specs.declared.head.Kind.TheVariants.{HardLink, Directory, Regular, SymLink, Block, Character, Socket, Fifo}
use Rattle.romfs_format.specs.declared.attribute_row.AttributeRow.{AttributeRow}
use Rattle.romfs_format.specs.Fields.{kind, exec, size, spec, name, data_at}
use Rattle.romfs_format.specs.Extended.{Extended, is_acl_name}
use Rattle.romfs_format.specs.Trailer.{row_at, list_at}
use Rattle.stack_model.specs.declared.attr.Attr.{Attr}
use Rattle.stack_model.specs.declared.owner.Owner.{Owner}
use Rattle.stack_model.specs.Listing.{Stacked}
use Rattle.stack_model.specs.Numbers.{Place, place, same_place, number, nodes, children}
use Rattle.std.specs.Prelude.{length}

-- whether the kind is that of a directory
abbrev pub is_directory : Kind → Bool
is_directory Directory = true
is_directory _ = false

-- type and permissions; a place is never a hard link
abbrev pub mode_of : Kind → Bool → ℕ
mode_of Directory exec = if exec then 0x41ed else 0x41a4
mode_of Regular exec = if exec then 0x81ed else 0x81a4
mode_of SymLink exec = 0xa1ff
mode_of Block exec = 0x6180
mode_of Character exec = 0x2180
mode_of Socket exec = 0xc1a4
mode_of Fifo exec = 0x11a4
mode_of HardLink exec = 0

-- only regular files and symbolic links have data
abbrev pub size_of : Kind → ℕ → ℕ
size_of Regular n = n
size_of SymLink n = n
size_of _ n = 0

-- Linux's new_encode_dev: 12 bits of major between the low 8 and the high 12 bits of minor
abbrev pub device : ℕ → ℕ → ℕ
device major minor =
    bit_or (bit_or (bit_and minor 0xff) (major * 2 ^ 8)) (bit_and minor 0xfff00 * 2 ^ 12)

-- major and minor are the upper and the lower 16 bits of spec.info
abbrev pub rdev_of : Kind → ℕ → ℕ
rdev_of Block s = device (s / 2 ^ 16) (s % 2 ^ 16)
rdev_of Character s = device (s / 2 ^ 16) (s % 2 ^ 16)
rdev_of _ s = 0

-- bytes in blocks of 512, rounded up
abbrev pub blocks_of : ℕ → ℕ
blocks_of n = (n + 511) / 512

-- a mode with the low 12 bits of a row; the type stays the header's
abbrev pub mode_by : Option AttributeRow → ℕ → ℕ
mode_by None mode = mode
mode_by (Some row) mode = mode / 2 ^ 12 * 2 ^ 12 + row.mode % 2 ^ 12

-- the owner in the row, or otherwise this owner
abbrev pub owner_by : Option AttributeRow → Owner → Owner
owner_by None owner = owner
owner_by (Some row) owner = record { uid = row.uid; gid = row.gid }

-- the row of a place among those of its layer, if there is one
abbrev pub row_in : List (List AttributeRow) → Place → Option AttributeRow
row_in rows p = row_at (slice_index_or rows p.0 []) p.1

-- the extended attributes of a place: those that its layer's row leads to
abbrev pub list_in : List (List AttributeRow) → List (List (List Extended)) → Place → List Extended
list_in rows lists p = list_at (slice_index_or rows p.0 []) (slice_index_or lists p.0 []) p.1

-- the blocks of all layers
abbrev pub blocks_all : List (List ℕ) → ℕ
blocks_all layers = sum_by (λ a. blocks_of (length a)) layers

module _ (layers : List (List ℕ)) where
  -- the bytes of the layer that a place is in; none if there is no such layer
  abbrev pub layer_of : Place → List ℕ
  layer_of p = slice_index_or layers p.0 []

  -- the kind of the header at a place
  abbrev pub kind_at : Place → Kind
  kind_at p = kind (layer_of p) p.1

  -- whether a place is a directory
  abbrev pub is_directory_at : Place → Bool
  is_directory_at p = is_directory (kind_at p)

  -- the mode in the header at a place, by its kind and whether it is executable
  abbrev pub mode : Place → ℕ
  mode p = mode_of (kind_at p) (exec (layer_of p) p.1)

  -- how many bytes of data a place has
  abbrev pub size_at : Place → ℕ
  size_at p = size_of (kind_at p) (size (layer_of p) p.1)

  -- the device number of a place; 0 if it is not a device
  abbrev pub rdev : Place → ℕ
  rdev p = rdev_of (kind_at p) (spec (layer_of p) p.1)

  -- the start of a place's data in its layer: after the padded name
  abbrev pub data_start : Place → ℕ
  data_start p = option_map_or (data_at p.1) (name (layer_of p) p.1) 0

  -- the data of a regular file, or the target of a symbolic link
  unfoldable pub data_of : Place → List ℕ
  data_of p = take (size_at p) (drop (data_start p) (layer_of p))

module _ (stack : Stacked) where
  -- how many shown paths have the place; for a directory 2 plus its shown subdirectories
  abbrev pub links : Place → ℕ
  links p =
      if is_directory_at stack.layers p then
      2 + count_by (λ c. is_directory_at stack.layers c.place) (children stack.entries p)
      else count_by (λ e. same_place p (place e)) stack.entries

  -- the same, at most the maximum of the field
  abbrev pub nlink : Place → ℕ
  nlink p = min (links p) (2 ^ 32 - 1)

  -- the row of a place
  abbrev pub row_of : Place → Option AttributeRow
  row_of p = row_in stack.rows p

  -- its extended attributes: none without a row
  abbrev pub xattrs_of : Place → List Extended
  xattrs_of p = list_in stack.rows stack.lists p

  -- some node has one
  abbrev pub has_xattrs : Bool
  has_xattrs = list_any (λ p. not (nat_eq (length (xattrs_of p)) 0)) (nodes stack.entries)

  -- some node has an access control list
  abbrev pub has_acls : Bool
  has_acls =
      list_any (λ p. list_any (λ x. is_acl_name x.name) (xattrs_of p)) (nodes stack.entries)

  -- the mode of a place: the header's type, and the row's permissions
  abbrev pub mode_at : Place → ℕ
  mode_at p = mode_by (row_of p) (mode stack.layers p)

  -- all attributes of a place, with its number; without a row the time is 0
  abbrev pub attr_of : Place → Attr
  attr_of p = record {
    ino = number stack.entries p;
    size = size_at stack.layers p;
    blocks = blocks_of (size_at stack.layers p);
    seconds = option_map_or (λ row. row.seconds) (row_of p) 0;
    nanoseconds = option_map_or (λ row. row.nanoseconds) (row_of p) 0;
    mode = mode_at p;
    nlink = nlink p;
    uid = (owner_by (row_of p) stack.owner).uid;
    gid = (owner_by (row_of p) stack.owner).gid;
    rdev = rdev stack.layers p;
  }
