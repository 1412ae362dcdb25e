-- Laws of replies and moves, whatever the layers.
use Rattle.std.specs.Prelude.{◌≡◌, ℕ, ◌⊎◌, ◌+◌, ◌<◌, ◌≤◌, List, [], ◌∷◌, ◌++◌, length, map, filter, take, slice_get, slice_index, slice_index_or, ◌^◌, Some, Bool, true, false, IsTrue, bytes_eq}
use Rattle.std.specs.List.{flat_map, list_any}
use Rattle.fuse_wire.specs.declared.errno.Errno.{Errno}
use Rattle.stack_model.specs.declared.attr.Attr.{Attr}
use Rattle.stack_model.specs.declared.owner.Owner.{Owner}
use Rattle.romfs_format.specs.declared.attribute_row.AttributeRow.{AttributeRow}
use Rattle.romfs_format.specs.Extended.{Extended, is_list}
use Rattle.fuse_wire.specs.Requests.{Op, Asked, at_node, lookup, readdirplus, silent, forget, batch_forget}
use Rattle.fuse_wire.specs.Structures.{u32, u64, entry_out, negative_entry_out}
use Rattle.fuse_wire.specs.Replies.{reply_with, error_reply}
use Rattle.stack_model.specs.Listing.{Stacked}
use Rattle.stack_model.specs.Numbers.{Place}
use Rattle.reply_model.specs.declared.session.Session.{Session}
use Rattle.stack_model.specs.Attributes.{row_of, attr_of, xattrs_of}
use Rattle.reply_model.specs.Rows.{Row, is_child, direntplus_of}
use Rattle.reply_model.specs.Replies.{reply}
use Rattle.reply_model.specs.Services.{give}
use Rattle.reply_model.specs.Moves.{moves}

-- the bytes begin with their own length, as 32 bits, an error, and the request's unique
pub record IsReplyTo (unique : ℕ) (bytes : List ℕ) : Type 0 where
  pub error : ℕ
  pub rest : List ℕ
  pub is : bytes ≡ u32 (length bytes) ++ u32 error ++ u64 unique ++ rest

-- the rows are the first ones of all, they fit in the room, and with the next one they would not
pub record AreFirstThatFit (form : Row → List ℕ) (room : ℕ) (all rows : List Row) : Type 0 where
  pub count : ℕ
  pub is : rows ≡ take count all
  pub fits : length (flat_map form rows) ≤ room
  pub full : (next : Row) → slice_get all count ≡ Some next
      → room < length (flat_map form rows) + length (form next)

module _ (stack : Stacked) where
  -- the request is answered with an error, and gives no lookups
  abbrev pub GivesNothing : Session → Asked → Type 0
  GivesNothing s q =
      ((errno : Errno) × (reply stack s q ≡ error_reply q.unique errno))
      × (moves stack s q ≡ [])

  -- it is answered with the entry of a node, and gives one lookup of that node
  abbrev pub IsEntry : Session → Asked → Type 0
  IsEntry s q =
      (p : Place)
      × (reply stack s q ≡ reply_with q.unique (entry_out (attr_of stack p)))
      × (moves stack s q ≡ give stack p ∷ [])

  -- it is answered that the name has no entry, and gives no lookups
  abbrev pub IsNoEntry : Session → Asked → Type 0
  IsNoEntry s q =
      (reply stack s q ≡ reply_with q.unique negative_entry_out)
      × (moves stack s q ≡ [])

  -- a LOOKUP gives one lookup of the node whose entry is in its reply, or none
  abbrev pub GivesEntry : Session → Asked → Type 0
  GivesEntry s q = GivesNothing s q ⊎ (IsNoEntry s q ⊎ IsEntry s q)

  -- a READDIRPLUS gives one lookup of the node of each row in its reply except . and .., or none
  abbrev pub GivesRows : Session → Asked → Type 0
  GivesRows s q =
      GivesNothing s q
      ⊎ ((rows : List Row)
      × (reply stack s q
      ≡ reply_with q.unique (flat_map (direntplus_of stack) rows))
      × (moves stack s q
      ≡ map (λ r. give stack r.1.place) (filter is_child rows)))

-- the requests that give or take lookups
abbrev pub is_moving : Op → Bool
is_moving (at_node (lookup name)) = true
is_moving (silent (forget nlookup)) = true
is_moving (silent (batch_forget items)) = true
is_moving (at_node (readdirplus offset size)) = true
is_moving _ = false

-- each layer is a list of bytes
pub record AreLayersOfBytes (layers : List (List ℕ)) : Type 0 where
  pub each : (i k : ℕ) → slice_index (slice_index_or layers i []) k < 256

-- an owner's numbers have 32 bits
pub record IsOwner (owner : Owner) : Type 0 where
  pub uid : owner.uid < 2 ^ 32
  pub gid : owner.gid < 2 ^ 32

-- a row's numbers have the bits of their fields
pub record IsRow (row : AttributeRow) : Type 0 where
  pub uid : row.uid < 2 ^ 32
  pub gid : row.gid < 2 ^ 32
  pub seconds : row.seconds < 2 ^ 64
  pub nanoseconds : row.nanoseconds < 2 ^ 32

-- so do the numbers of each row of each layer, and those of the owner of everything without a row
pub record AreOwned (stack : Stacked) : Type 0 where
  pub owner : IsOwner stack.owner
  pub rows : (p : Place) (row : AttributeRow) → row_of stack p ≡ Some row → IsRow row

-- the extended attributes of each place are a list that a file may have
pub record AreListed (stack : Stacked) : Type 0 where
  pub each : (p : Place) → IsTrue (is_list (xattrs_of stack p))

-- one of them has this name
abbrev pub is_listed : List ℕ → List Extended → Bool
is_listed name xs = list_any (λ x. bytes_eq x.name name) xs

-- the attributes fit the fields of an attr, if the number does
pub record FitsFields (a : Attr) : Type 0 where
  pub size : a.size < 2 ^ 64
  pub blocks : a.blocks < 2 ^ 64
  pub seconds : a.seconds < 2 ^ 64
  pub nanoseconds : a.nanoseconds < 2 ^ 32
  pub mode : a.mode < 2 ^ 32
  pub nlink : a.nlink < 2 ^ 32
  pub uid : a.uid < 2 ^ 32
  pub gid : a.gid < 2 ^ 32
  pub rdev : a.rdev < 2 ^ 32
