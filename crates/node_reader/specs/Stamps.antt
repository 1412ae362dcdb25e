-- The stamps of nodes, and the rows of attributes that they come from.
use Rattle.std.specs.Prelude.{◌≡◌, ℕ, zero, suc, List, length, slice_get, Option, Some, None}
use Rattle.romfs_format.specs.declared.attribute_row.AttributeRow.{AttributeRow}
use Rattle.node_reader.specs.declared.stamp.Stamp.{Stamp}

-- the item with a number, counted from 1
abbrev pub held_at : {A : Type 0} → List A → ℕ → Option A
held_at held zero = None
held_at held (suc k) = slice_get held k

-- the rows of each layer, the lowest first, and the stamps of nodes
pub record HeldStamps : Type 0 where
  pub rows : List (List AttributeRow)
  pub stamps : List Stamp

-- the owner of a row's node, and when it was changed
abbrev pub stamp_of : AttributeRow → Stamp
stamp_of row = record {
  seconds = row.seconds;
  nanoseconds = row.nanoseconds;
  uid = row.uid;
  gid = row.gid;
}

-- two lists have the same length, and this relates items at the same place
pub record ArePaired {A B : Type 0} (R : A → B → Type 0) (xs : List A) (ys : List B) : Type 0 where
  pub level : length ys ≡ length xs
  pub each : (k : ℕ) (x : A) (y : B) → slice_get xs k ≡ Some x → slice_get ys k ≡ Some y → R x y
