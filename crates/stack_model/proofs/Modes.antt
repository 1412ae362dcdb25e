-- Modes with and without a row: the type stays (`type_stays`), the other bits are the row's.
use Rattle.std.proofs.Common.{◌≡◌, ◌∙◌, ap, ℕ, ◌/◌, ◌%◌, ◌^◌, Option, None, Some, refl, arith}
use Rattle.std.specs.Option.{option_map_or}
use Rattle.stack_model.specs.declared.attr.Attr.{Attr}
use Rattle.stack_model.specs.declared.owner.Owner.{Owner}
use Rattle.stack_model.specs.declared.owner.TheConstants.Owner.{ROOT}
use Rattle.romfs_format.specs.declared.attribute_row.AttributeRow.{AttributeRow}
use Rattle.stack_model.specs.Listing.{Stacked, stacked}
use Rattle.stack_model.specs.Numbers.{Place}
use Rattle.stack_model.specs.Attributes.{mode, mode_by, owner_by, mode_at, row_of, attr_of}

type_by : (o : Option AttributeRow) (m : ℕ) → mode_by o m / 2 ^ 12 ≡ m / 2 ^ 12
type_by None m = refl
type_by (Some row) m = omega arith

-- a row changes no type
pub type_stays : (stack : Stacked) (p : Place) → mode_at stack p / 2 ^ 12 ≡ mode stack.layers p / 2 ^ 12
type_stays stack p = type_by (row_of stack p) (mode stack.layers p)

bits_of : (row : AttributeRow) (m : ℕ) → mode_by (Some row) m % 2 ^ 12 ≡ row.mode % 2 ^ 12
bits_of row m = omega arith

-- a row says all other bits
pub bits_are : (stack : Stacked) (p : Place) (row : AttributeRow) → row_of stack p ≡ Some row
    → mode_at stack p % 2 ^ 12 ≡ row.mode % 2 ^ 12
bits_are stack p row e = rw e (bits_of row (mode stack.layers p))

-- the attributes of a place that is shown as this without rows, by its row and an owner
abbrev told : Stacked → Place → Option AttributeRow → Owner → Attr
told stack p said owner = record (attr_of (stacked stack.layers stack.entries) p) {
  seconds = option_map_or (λ (r : AttributeRow). r.seconds) said 0;
  nanoseconds = option_map_or (λ (r : AttributeRow). r.nanoseconds) said 0;
  mode = mode_by said (mode stack.layers p);
  uid = (owner_by said owner).uid;
  gid = (owner_by said owner).gid;
}

-- without a row, and if everything without one belongs to the superuser, they are those without rows
pub as_without : (stack : Stacked) (p : Place) → row_of stack p ≡ None → stack.owner ≡ ROOT
    → attr_of stack p ≡ attr_of (stacked stack.layers stack.entries) p
as_without stack p none owner = ap (λ r. told stack p r stack.owner) none ∙ ap (told stack p None) owner

-- the three of them, for the law
pub ruleset modes = (type_stays, bits_are, as_without)
