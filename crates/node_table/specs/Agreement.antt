-- When the first branches of places agree with the listing, and a table can be made from them.
use Rattle.std.specs.Prelude.{◌≡◌, ℕ, List, length, map, slice_get, slice_index, count_by, Some, false}
use Rattle.romfs_reader.specs.Readers.{data_of_header as data_in}
use Rattle.stack_model.specs.Listing.{Entry as Listed, IsListing, Stacked, stacked}
use Rattle.stack_model.specs.Numbers.{Place, Child, nodes, number, parent, children}
use Rattle.stack_model.specs.Attributes.{kind_at, is_directory_at, nlink, data_of}
use Rattle.layer_paths.specs.Rows.{Subtree, spread, IsForest}
use Rattle.layer_paths.specs.declared.entries.Place.{Place as TreePlace}
use Rattle.layer_paths.specs.declared.entries.Entry.{Entry}
use Rattle.node_reader.specs.declared.node.Node.{Node}
use Rattle.node_reader.specs.Rows.{Line}
use Rattle.node_reader.specs.Directories.{HeldDirectories}
use Rattle.node_table.specs.Walks.{Visit, Walk}
use Rattle.node_table.specs.Numbering.{visit_place, number_among}
use Rattle.node_table.specs.Building.{line_in, count_directories, number_above, HasGivenHeader, StandAtStarts, completed}
use Rattle.node_reader.specs.Held.{AreNodes}

-- the row of a shown child
abbrev pub shown_line : List Listed → Child → Line
shown_line entries c = record { number = number entries c.place; name = c.name }

-- the children of a branch agree with the listing at its place
pub record AgreeBelow (stack : Stacked) (tell : TreePlace → ℕ) (p : Place)
    (cs : List (Subtree Entry)) : Type 0 where
  pub rows_are : map (line_in tell) cs ≡ map (shown_line stack.entries) (children stack.entries p)
  pub count_is : count_directories cs ≡ count_by (λ c. is_directory_at stack.layers c.place)
      (children stack.entries p)

-- the branch agrees with the listing at its place
pub record AgreesAtPlace (stack : Stacked) (tell : TreePlace → ℕ) (above paths : ℕ)
    (visit : Visit Entry) : Type 0 where
  pub header : HasGivenHeader stack.layers visit.now
  pub data_is : (image : List ℕ)
      → slice_get stack.layers visit.now.value.place.layer ≡ Some image
      → data_in image visit.now.value.place.header ≡ data_of stack.layers (visit_place visit)
  pub kind_is : visit.now.value.kind ≡ kind_at stack.layers (visit_place visit)
  pub parent_is : above ≡ number stack.entries (parent stack.entries (visit_place visit))
  pub below : (cs : List (Subtree Entry)) → visit.now.below ≡ spread cs → IsForest cs
      → AgreeBelow stack tell (visit_place visit) cs
  pub paths_are : is_directory_at stack.layers (visit_place visit) ≡ false
      → paths ≡ nlink stack (visit_place visit)

-- the first branches of all places, in the order of numbers, agree with the listing: the place of
-- each, and the number of its parent
pub record AgreeWithListing (stack : Stacked) (tell : TreePlace → ℕ) (above : ℕ → ℕ)
    (first : List (Visit Entry)) (starts paths : List ℕ) : Type 0 where
  pub listing : IsListing stack.layers stack.entries
  pub level : length paths ≡ length first
  pub places : map visit_place first ≡ nodes stack.entries
  pub each : (k : ℕ) (visit : Visit Entry) → slice_get first k ≡ Some visit
      → AgreesAtPlace stack tell (above (slice_index starts k)) (slice_index paths k) visit

-- they do so with some listing of the layers
abbrev pub AgreeWithSomeListing : List (List ℕ) → (TreePlace → ℕ) → (ℕ → ℕ) → List (Visit Entry)
    → List ℕ → List ℕ → Type 0
AgreeWithSomeListing layers tell above first starts paths =
    (entries : List Listed)
    × AgreeWithListing (stacked layers entries) tell above first starts paths

-- the first branches of all places agree with a listing, and are at the positions in starts
abbrev pub StandAndAgree : List (List ℕ) → Walk Entry → List ℕ → List ℕ → List ℕ → Type 0
StandAndAgree layers walk starts paths numbers =
    (first : List (Visit Entry))
    × AgreeWithSomeListing layers (number_among walk.visits) (number_above numbers walk.above)
    first starts paths
    × StandAtStarts walk numbers first starts

-- nodes, and what is kept about directories, make a table of the layers, once the nodes are
-- completed
abbrev pub AreMade : List (List ℕ) → List Node → HeldDirectories → Type 0
AreMade layers nodes directories =
    (entries : List Listed) × IsListing layers entries
    × AreNodes (stacked layers entries) (map completed nodes) directories
