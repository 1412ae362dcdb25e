-- The shown paths of a stack in order, each with its place: the stack's numbers are counted from
-- these.
use Rattle.std.specs.Prelude.{◌≡◌, ℕ, ◌⊎◌, List, [], ◌∷◌, Bool, true, slice_get, Some}
use Rattle.std.specs.declared.cmp.Ordering.{Ordering}
use Rattle.std.specs.declared.cmp.Ordering.TheVariants.{Less}
use Rattle.std.specs.List.{AllByRecursion}
use Rattle.std.specs.Cmp.Lexicographic.{slice_cmp}
use Rattle.std.specs.Ordering.{nat_cmp}
use Rattle.stack_model.specs.declared.owner.Owner.{Owner}
use Rattle.stack_model.specs.declared.owner.TheConstants.Owner.{ROOT}
use Rattle.romfs_format.specs.declared.attribute_row.AttributeRow.{AttributeRow}
use Rattle.romfs_format.specs.Extended.{Extended}
use Rattle.romfs_format.specs.Links.{IsFinal}
use Rattle.stack_model.specs.Stack.{Path, Shows}

-- a shown path, the layer that shows it, and its header there after hard links
pub record Entry : Type 0 where
  pub path : List (List ℕ)
  pub layer : ℕ
  pub header : ℕ

-- layers, lowest first, and entries that they show; the rows of attributes of each layer, the list
-- of extended attributes for each row, and the owner of nodes without a row; and whether the layers
-- are complete, or have zeros for what is not kept
pub record Stacked : Type 0 where
  pub layers : List (List ℕ)
  pub entries : List Entry
  pub rows : List (List AttributeRow)
  pub lists : List (List (List Extended))
  pub owner : Owner
  pub whole : Bool

-- complete layers without rows, with the superuser as owner of everything
abbrev pub stacked : List (List ℕ) → List Entry → Stacked
stacked layers entries = record {
  layers = layers;
  entries = entries;
  rows = [];
  lists = [];
  owner = ROOT;
  whole = true;
}

-- by names, these by bytes; a list comes before its extensions
abbrev pub path_cmp : Path → Path → Ordering
path_cmp = slice_cmp (slice_cmp nat_cmp)

-- the paths rise
abbrev pub Rises : List Entry → Type 0
Rises [] = Unit {0}
Rises (e ∷ es) = AllByRecursion (λ f. path_cmp e.path f.path ≡ Less) es × Rises es

-- the header in the layer i where hard links from h end
abbrev pub IsFinalIn : List (List ℕ) → ℕ → ℕ → ℕ → Type 0
IsFinalIn layers i h header = (a : List ℕ) × (slice_get layers i ≡ Some a) × IsFinal a h header

-- the stack shows the entry's path, at the entry's place
abbrev pub IsShown : List (List ℕ) → Entry → Type 0
IsShown layers e = (h : ℕ) × Shows layers e.path e.layer h × IsFinalIn layers e.layer h e.header

-- the entry is one of the list
abbrev pub IsAmong : Entry → List Entry → Type 0
IsAmong e [] = ⊥
IsAmong e (f ∷ fs) = (e ≡ f) ⊎ IsAmong e fs

-- the entries are those that the stack shows, in order
pub record IsListing (layers : List (List ℕ)) (entries : List Entry) : Type 0 where
  pub rising : Rises entries
  pub exact : (e : Entry)
      → (IsAmong e entries → IsShown layers e) × (IsShown layers e → IsAmong e entries)
