-- Node numbers, which FUSE calls nodeid and ino: places in the order of their first path, counted
-- from 1.
use Rattle.std.specs.Prelude.{ℕ, zero, suc, ◌-◌, List, [], ◌∷◌, ◌++◌, length, map, fold, take, Bool, ◌&&◌, ◌==◌, Option, Some, None, slice_get, nat_eq, find, unwrap_or, if◌then◌else◌}
use Rattle.std.specs.List.{list_any, filter_map, position_from}
use Rattle.std.specs.Option.{option_map, option_map_or}
use Rattle.std.specs.Cmp.Lexicographic.{pointwise}
use Rattle.stack_model.specs.Stack.{Path}
use Rattle.stack_model.specs.Listing.{Entry}

-- a layer, and a header there after hard links
abbrev pub Place : Type 0
Place = ℕ × ℕ

-- the place of the entry
abbrev pub place : Entry → Place
place e = (e.layer, e.header)

-- whether layer and header are the same
abbrev pub same_place : Place → Place → Bool
same_place p q = p.0 == q.0 && p.1 == q.1

-- whether the bytes are the same
abbrev pub same_name : List ℕ → List ℕ → Bool
same_name = pointwise nat_eq

-- whether the names are the same
abbrev pub same_path : Path → Path → Bool
same_path = pointwise same_name

-- the places, and p at their end if it is not among them
abbrev pub noted : List Place → Place → List Place
noted places p = if list_any (same_place p) places then places else places ++ p ∷ []

-- the places of the entries, each once, in the order of their first path: the nodes
unfoldable pub nodes : List Entry → List Place
nodes entries = fold noted [] (map place entries)

-- the position of the place among the nodes, counted from 1
unfoldable pub number_of : List Entry → Place → Option ℕ
number_of entries p = position_from (same_place p) 1 (nodes entries)

-- the number of a place that is shown
abbrev pub number : List Entry → Place → ℕ
number entries p = unwrap_or (number_of entries p) 0

-- the place of a number that is in use
abbrev pub node_of : List Entry → ℕ → Option Place
node_of entries zero = None
node_of entries (suc n) = slice_get (nodes entries) n

-- the first path of a place
abbrev pub path_of : List Entry → Place → Path
path_of entries p = option_map_or (λ e. e.path) (find (λ e. same_place p (place e)) entries) []

-- the place of the parent directory: that of the path without its last name. The root is its own
-- parent
unfoldable pub parent : List Entry → Place → Place
parent entries p =
    let path = path_of entries p in
    option_map_or place (find (λ e. same_path (take (length path - 1) path) e.path) entries) p

-- the name, if the path is one name below the directory with the path top
abbrev pub name_below : Path → Path → Option (List ℕ)
name_below [] (n ∷ []) = Some n
name_below (m ∷ top) (n ∷ path) = if same_name m n then name_below top path else None
name_below _ _ = None

-- a shown child of a directory
pub record Child : Type 0 where
  pub name : List ℕ
  pub place : ℕ × ℕ

-- the entry's name and place, if it lies in the directory with the path top
abbrev pub child_in : Path → Entry → Option Child
child_in top e = option_map (λ n. record { name = n; place = place e }) (name_below top e.path)

-- the shown children of the directory at a place, in the order of their names
unfoldable pub children : List Entry → Place → List Child
children entries p = filter_map (child_in (path_of entries p)) entries

-- the place of the child with this name
abbrev pub child : List Entry → Place → List ℕ → Option Place
child entries p name =
    option_map (λ c. c.place) (find (λ c. same_name name c.name) (children entries p))
