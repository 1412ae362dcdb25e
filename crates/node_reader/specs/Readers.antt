-- What a table answers about a number, from the listing of its layers.
use Rattle.std.specs.Prelude.{◌≡◌, ◌≢◌, ℕ, List, [], map, slice_get, Option, Some, None, MatchOption, if◌then◌else◌}
use Rattle.std.specs.Borrow.{Bor}
use Rattle.std.specs.Option.{option_map, option_map_or, option_and_then}
use Rattle.romfs_reader.specs.Readers.{bytes_at, IsPart}
use Rattle.stack_model.specs.Listing.{Stacked}
use Rattle.stack_model.specs.Numbers.{Place as ModelPlace, number, node_of, parent, children, child}
use Rattle.romfs_format.specs.Extended.{Extended}
use Rattle.stack_model.specs.Attributes.{is_directory_at, kind_at, attr_of, data_start, data_of, xattrs_of}
use Rattle.layer_paths.specs.declared.entries.Place.{Place}
use Rattle.stack_model.specs.declared.attr.Attr.{Attr}
use Rattle.node_reader.specs.declared.node.Node.{Node}
use Rattle.node_reader.specs.Rows.{Line}

-- a place, in the form of the definitions
abbrev pub placed : Place → ModelPlace
placed place = (place.layer, place.header)

module _ (stack : Stacked) where
  -- the number of the parent; none if the place is not a directory
  abbrev pub parent_of : ModelPlace → Option ℕ
  parent_of p =
      if is_directory_at stack.layers p
      then Some (number stack.entries (parent stack.entries p))
      else None

  -- the number of the visible child with a name; none if the place is not a directory
  abbrev pub child_of : ModelPlace → List ℕ → Option ℕ
  child_of p name =
      if is_directory_at stack.layers p
      then option_map (number stack.entries) (child stack.entries p name)
      else None

  -- the visible children of a place, in the order of their names; empty if it is not a directory
  abbrev pub rows_of : ModelPlace → List Line
  rows_of p =
      if is_directory_at stack.layers p
      then map (λ c. record { number = number stack.entries c.place; name = c.name })
      (children stack.entries p)
      else []

-- the data that the node keeps are in the place's layer, and are the place's
pub record HoldsData (layers : List (List ℕ)) (layer : ℕ) (node : Node) (p : ModelPlace)
    : Type 0 where
  pub image : List ℕ
  pub is : slice_get layers layer ≡ Some image
  pub lies : IsPart image node.part
  pub data_is : bytes_at image node.part.start node.part.len ≡ data_of layers p
  pub start_is : node.part.len ≢ 0 → node.part.start ≡ data_start layers p

-- the number is the node's, and the node has its place, its kind, and the place of its data
pub record IsNodeOf (stack : Stacked) (number : ℕ) (node : Node) : Type 0 where
  pub place_is : node_of stack.entries number ≡ Some (placed node.place)
  pub kind_is : node.kind ≡ kind_at stack.layers (placed node.place)
  pub holds : HoldsData stack.layers node.place.layer node (placed node.place)

-- the node of a number; none if the number is not in use
abbrev pub TellsNode : Stacked → ℕ → Option (Bor Node) → Type 0
TellsNode stack n found =
    MatchOption found (node_of stack.entries n ≡ None) (λ node. IsNodeOf stack n node.now)

-- the attributes of a number
abbrev pub attr_at : Stacked → ℕ → Option Attr
attr_at stack n = option_map (attr_of stack) (node_of stack.entries n)

-- the extended attributes of a number; none if it is not in use
abbrev pub xattrs_at : Stacked → ℕ → List Extended
xattrs_at stack n = option_map_or (xattrs_of stack) (node_of stack.entries n) []

-- the number of the parent directory
abbrev pub parent_at : Stacked → ℕ → Option ℕ
parent_at stack n = option_and_then (parent_of stack) (node_of stack.entries n)

-- the number of the child with a name
abbrev pub child_at : Stacked → ℕ → List ℕ → Option ℕ
child_at stack n name =
    option_and_then (λ p. child_of stack p name) (node_of stack.entries n)

-- the rows of a directory, without . and ..
abbrev pub rows_at : Stacked → ℕ → List Line
rows_at stack n = option_map_or (rows_of stack) (node_of stack.entries n) []

-- the data of a regular file, or the target of a symbolic link; empty for other kinds
abbrev pub data_of_number : Stacked → ℕ → List ℕ
data_of_number stack n = option_map_or (data_of stack.layers) (node_of stack.entries n) []
