-- The entries below a path.
use Rattle.std.specs.Prelude.{◌≡◌, ◌≤◌, ℕ, List, [], ◌∷◌, ◌++◌, Bool, true, false, Option, Some, None, length, slice_get, filter, if◌then◌else◌}
use Rattle.romfs_reader.specs.Images.{IsImage}
use Rattle.stack_model.specs.Stack.{Path}
use Rattle.stack_model.specs.Listing.{Entry, Rises, IsAmong}
use Rattle.stack_model.specs.Numbers.{place, same_name}
use Rattle.stack_model.specs.Attributes.{is_directory_at}
use Rattle.node_list.specs.declared.path_text.TheConstants.{LONGEST}
use Rattle.node_list.specs.Lines.{names_text}

-- the names of the path after those of top, if it begins with them
abbrev pub after : Path → Path → Option Path
after [] path = Some path
after (m ∷ top) [] = None
after (m ∷ top) (n ∷ path) = if same_name m n then after top path else None

-- there is a path and it has a name
abbrev pub is_some_name : Option Path → Bool
is_some_name (Some (n ∷ path)) = true
is_some_name _ = false

-- whether the path has all names of top and more
abbrev pub is_below : Path → Path → Bool
is_below top path = is_some_name (after top path)

-- the entries below a path, in order
unfoldable pub below : List Entry → Path → List Entry
below entries top = filter (λ e. is_below top e.path) entries

-- each layer is the accessible bytes of a sound image
pub record AreImages (layers : List (List ℕ)) : Type 0 where
  pub each : (i : ℕ) (a : List ℕ) → slice_get layers i ≡ Some a → IsImage a

-- the directory at a path is shown
abbrev pub IsShownDirectory : List (List ℕ) → List Entry → Path → Type 0
IsShownDirectory layers entries path =
    (d : Entry) × IsAmong d entries × (d.path ≡ path) × (is_directory_at layers (place d) ≡ true)

-- the shown paths make a tree: each lies in shown directories, and a directory has one path
pub record AreTree (layers : List (List ℕ)) (entries : List Entry) : Type 0 where
  pub rising : Rises entries
  pub above : (e : Entry) (top path : Path) (n : List ℕ) → IsAmong e entries
      → e.path ≡ top ++ n ∷ path → IsShownDirectory layers entries top
  pub once : (d e : Entry) → IsAmong d entries → IsAmong e entries → place d ≡ place e
      → is_directory_at layers (place d) ≡ true → d.path ≡ e.path

-- the text of no path is too long
pub record AreShort (entries : List Entry) : Type 0 where
  pub each : (e : Entry) → IsAmong e entries → length (names_text e.path) ≤ LONGEST
