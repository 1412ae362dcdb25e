-- Nodes and rows, made from branches with numbers.
use Rattle.std.specs.Prelude.{◌≡◌, ℕ, ◌+◌, ◌-◌, ◌^◌, ◌<◌, ◌≤◌, List, [], ◌∷◌, ◌++◌, length, map, min, count_by, slice_get, slice_index, Some, ⊤}
use Rattle.std.specs.Bool.{MatchBool}
use Rattle.romfs_format.specs.Fields.{exec, spec}
use Rattle.romfs_format.specs.Heads.{head_of}
use Rattle.romfs_reader.specs.Readers.{IsGiven, IsDataPart}
use Rattle.stack_model.specs.Attributes.{is_directory, mode_of, rdev_of}
use Rattle.layer_paths.specs.Rows.{Subtree, spread, whole, IsForest}
use Rattle.layer_paths.specs.declared.entries.Place.{Place}
use Rattle.layer_paths.specs.declared.entries.Entry.{Entry}
use Rattle.layer_paths.specs.Trees.{IsReadIn}
use Rattle.node_reader.specs.declared.node.Node.{Node}
use Rattle.node_reader.specs.declared.directory.Directory.{Directory}
use Rattle.layer_names.specs.Keyed.{AddsKeys}
use Rattle.node_reader.specs.Rows.{Line, names}
use Rattle.node_reader.specs.Directories.{HeldDirectories}
use Rattle.node_table.specs.declared.building.First.{First}
use Rattle.node_table.specs.Walks.{Visit, Walk}
use Rattle.node_table.specs.Numbering.{number_among}

-- the row of a child
abbrev pub line_in : (Place → ℕ) → Subtree Entry → Line
line_in tell c = record { number = tell c.value.place; name = c.name }

-- how many of these branches are directories
abbrev pub count_directories : List (Subtree Entry) → ℕ
count_directories cs = count_by (λ c. is_directory c.value.kind) cs

-- the rows of children are added at the end, and the directories among these counted
pub record AddsRows (tell : Place → ℕ) (cs : List (Subtree Entry)) (old new : List Line)
    (n : ℕ) : Type 0 where
  pub rows_are : new ≡ old ++ map (line_in tell) cs
  pub count_is : n ≡ count_directories cs

-- a branch's number and size are at this place
pub record HasNumberAndSize (tell : Place → ℕ) (numbers sizes : List ℕ) (at : ℕ)
    (c : Subtree Entry) : Type 0 where
  pub within : at < length numbers
  pub sized : at < length sizes
  pub number_is : slice_index numbers at ≡ tell c.value.place
  pub size_is : slice_index sizes at ≡ length (whole c)
  pub ends : at + length (whole c) ≤ length sizes

-- branches are from this place on, each after the one before it and everything below that
abbrev pub AreFollowing : (Place → ℕ) → List ℕ → List ℕ → ℕ → List (Subtree Entry) → Type 0
AreFollowing tell numbers sizes at [] = ⊤
AreFollowing tell numbers sizes at (c ∷ cs) =
    HasNumberAndSize tell numbers sizes at c
    × AreFollowing tell numbers sizes (at + length (whole c)) cs

-- the children of a branch follow it
pub record HasChildrenAfter (tell : Place → ℕ) (numbers sizes : List ℕ) (at : ℕ)
    (branch : Subtree Entry) : Type 0 where
  pub within : at < length sizes
  pub each : (cs : List (Subtree Entry)) → branch.below ≡ spread cs → IsForest cs
      → AreFollowing tell numbers sizes (at + 1) cs

-- the number of the branch above the one at this place
abbrev pub number_above : List ℕ → List ℕ → ℕ → ℕ
number_above numbers above at = slice_index numbers (slice_index above at)

-- there is such a number
pub record HasAbove (numbers above : List ℕ) (at : ℕ) : Type 0 where
  pub placed : at < length above
  pub within : slice_index above at < length numbers

-- the first branches are at the positions in starts, with numbers of their parents and children
pub record StandAtStarts (walk : Walk Entry) (numbers : List ℕ) (first : List (Visit Entry))
    (starts : List ℕ) : Type 0 where
  pub level : length starts ≡ length first
  pub there : (k : ℕ) (visit : Visit Entry) → slice_get first k ≡ Some visit
      → slice_get walk.visits (slice_index starts k) ≡ Some visit
  pub above : (k : ℕ) (visit : Visit Entry) → slice_get first k ≡ Some visit
      → HasAbove numbers walk.above (slice_index starts k)
  pub children : (k : ℕ) (visit : Visit Entry) → slice_get first k ≡ Some visit
      → HasChildrenAfter (number_among walk.visits) numbers walk.sizes (slice_index starts k)
      visit.now

-- the header at a branch's place is one that the place's image gives, and the branch says what the
-- header says
pub record HasGivenHeader (layers : List (List ℕ)) (branch : Subtree Entry) : Type 0 where
  pub image : List ℕ
  pub is : slice_get layers branch.value.place.layer ≡ Some image
  pub given : IsGiven image (head_of image branch.value.place.header)
  pub is_read : IsReadIn image branch.value

-- the node has what the header says about the kind's data, permissions and device
pub record IsReadFrom (image : List ℕ) (header : ℕ) (node : Node) : Type 0 where
  pub data_is : IsDataPart image header node.part
  pub exec_is : node.exec ≡ exec image header
  pub spec_is : node.rdev ≡ spec image header

-- the node is the branch's, and has what the header at the branch's place says
pub record IsReadOf (layers : List (List ℕ)) (branch : Subtree Entry) (node : Node) : Type 0 where
  pub kind_is : node.kind ≡ branch.value.kind
  pub place_is : node.place ≡ branch.value.place
  pub read : (image : List ℕ) → slice_get layers node.place.layer ≡ Some image
      → IsReadFrom image node.place.header node

-- the directory of a branch with these children: its rows are added at the end, and their keys
pub record IsMade (tell : Place → ℕ) (above : ℕ) (cs : List (Subtree Entry))
    (old new : HeldDirectories) (directory : Directory) : Type 0 where
  pub parent_is : directory.parent ≡ above
  pub start_is : directory.rows_start ≡ length old.rows
  pub end_is : directory.rows_end ≡ length new.rows
  pub rows_are : new.rows ≡ old.rows ++ map (line_in tell) cs
  pub keys_are : AddsKeys directory.shared (names (map (line_in tell) cs)) old.keys new.keys

-- a branch's directory is added, and the directories in it are counted
pub record AddsDirectory {A : Type 0} (tell : Place → ℕ) (first : First A)
    (old new : HeldDirectories) (n : ℕ) : Type 0 where
  pub children : List (Subtree Entry)
  pub below : first.branch.now.below ≡ spread children
  pub forest : IsForest children
  pub directory : Directory
  pub is : new.all ≡ old.all ++ directory ∷ []
  pub made : IsMade tell first.parent children old new directory
  pub count_is : n ≡ count_directories children

-- a directory is added, which is linked by its name, its own . and the directories in it
pub record AddsLinked {A : Type 0} (tell : Place → ℕ) (first : First A) (nlink : ℕ)
    (old new : HeldDirectories) : Type 0 where
  pub count : ℕ
  pub added : AddsDirectory tell first old new count
  pub nlink_is : nlink ≡ min (2 + count) (2 ^ 32 - 1)

-- nothing is added, and the node is linked by its paths
pub record AddsNothing (paths nlink : ℕ) (old new : HeldDirectories) : Type 0 where
  pub same : new ≡ old
  pub nlink_is : nlink ≡ paths

-- what is added for a first branch, whether or not it is a directory
abbrev pub AddsByKind : {A : Type 0} → (Place → ℕ) → First A → ℕ → HeldDirectories
    → HeldDirectories → Type 0
AddsByKind tell first nlink old new =
    MatchBool (is_directory first.branch.now.value.kind) (AddsLinked tell first nlink old new)
    (AddsNothing first.paths nlink old new)

-- the node of a first branch, before it is completed
pub record AddsNode {A : Type 0} (layers : List (List ℕ)) (tell : Place → ℕ) (first : First A)
    (old new : HeldDirectories) (node : Node) : Type 0 where
  pub read : IsReadOf layers first.branch.now node
  pub directory_is : node.directory ≡ length old.all
  pub adds : AddsByKind tell first node.nlink old new

-- the node with the mode and device number that its kind determines
abbrev pub completed : Node → Node
completed node = record node {
  mode = mode_of node.kind node.exec;
  rdev = rdev_of node.kind node.rdev;
}
