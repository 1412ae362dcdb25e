-- The extended attributes that a table keeps.
use Rattle.std.specs.Prelude.{◌≡◌, ℕ, zero, suc, ◌+◌, List, [], length, Bool, false, not, nat_eq, Some}
use Rattle.std.specs.List.{list_any, slice_index_or}
use Rattle.std.specs.Option.{option_map_or}
use Rattle.romfs_format.specs.Extended.{Extended, is_acl_name}
use Rattle.romfs_format.specs.declared.attribute_row.AttributeRow.{AttributeRow}
use Rattle.romfs_rows.specs.Order.{position_at}
use Rattle.stack_model.specs.Attributes.{list_in}
use Rattle.node_reader.specs.declared.node.Node.{Node}
use Rattle.node_reader.specs.Readers.{placed}
use Rattle.node_reader.specs.Stamps.{held_at}

-- a list for each row of each layer; for each node the position of its row, counted from 1, or 0 if
-- it has no row; whether a node has a list, and whether one has an access control list
pub record HeldXattrs : Type 0 where
  pub lists : List (List (List Extended))
  pub positions : List ℕ
  pub some : Bool
  pub acls : Bool

-- the list of the row at a position that counts from 1
abbrev pub list_behind : List (List Extended) → ℕ → List Extended
list_behind lists zero = []
list_behind lists (suc position) = slice_index_or lists position []

-- the same in a layer
abbrev pub list_held : List (List (List Extended)) → ℕ → ℕ → List Extended
list_held lists layer position = list_behind (slice_index_or lists layer []) position

-- the position of a node's row among those of its layer, counted from 1; 0 if it has no row
abbrev pub row_number : List (List AttributeRow) → Node → ℕ
row_number rows node =
    option_map_or (λ position. position + 1)
    (position_at (slice_index_or rows node.place.layer []) node.place.header) 0

-- the extended attributes of the node with a number
abbrev pub xattrs_held : HeldXattrs → ℕ → Node → List Extended
xattrs_held x n node = option_map_or (list_held x.lists node.place.layer) (held_at x.positions n) []

-- the list has an attribute
abbrev pub has_some : List Extended → Bool
has_some xs = not (nat_eq (length xs) 0)

-- it has an access control list
abbrev pub has_acl : List Extended → Bool
has_acl xs = list_any (λ x. is_acl_name x.name) xs

-- the extended attributes of a node, by the row of its place
abbrev pub list_of_node : List (List AttributeRow) → List (List (List Extended)) → Node
    → List Extended
list_of_node rows lists node = list_in rows lists (placed node.place)

-- no row of any layer has a list
pub record AreBare (lists : List (List (List Extended))) : Type 0 where
  pub each : (layer position : ℕ) → slice_index_or (slice_index_or lists layer []) position [] ≡ []

-- each node has those that its row leads to
pub record AreXattrsOf (rows : List (List AttributeRow)) (held : List Node) (x : HeldXattrs)
    : Type 0 where
  pub each : (n : ℕ) (node : Node) → held_at held n ≡ Some node
      → xattrs_held x n node ≡ list_of_node rows x.lists node
  pub some_are : x.some ≡ list_any (λ node. has_some (list_of_node rows x.lists node)) held
  pub acls_are : x.acls ≡ list_any (λ node. has_acl (list_of_node rows x.lists node)) held
