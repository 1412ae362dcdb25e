-- What a tree says about a run of layers: the entry at each path that the run shows, and which
-- paths the run cuts.
use Rattle.std.specs.Prelude.{◌≡◌, ℕ, ◌+◌, ◌↔◌, List, ◌∷◌, ◌++◌, map, Bool, ◌&&◌, Option, Some, slice_get, IsTrue, IsSomeAnd}
use Rattle.romfs_format.specs.declared.head.Head.{Head}
use Rattle.romfs_format.specs.Heads.{head_of}
use Rattle.romfs_format.specs.Links.{IsFinal}
use Rattle.stack_model.specs.Stack.{Path, Shows, IsCut}
use Rattle.stack_model.specs.Listing.{Entry as Listed}
use Rattle.layer_paths.specs.Rows.{Subtree, spread, at_path, PathsRise, IsForest}
use Rattle.layer_paths.specs.declared.entries.Entry.{Entry}
use Rattle.layer_paths.specs.declared.entries.Mark.{Mark}
use Rattle.layer_paths.specs.Marks.{removed_by, is_plain}

-- a tree: the entries and the marks by their paths
pub record TreeRows : Type 0 where
  pub entries : List (List (List ℕ) × Entry)
  pub marks : List (List (List ℕ) × Mark)

-- the entry at a path, if there is one
abbrev pub entry_at : TreeRows → Path → Option Entry
entry_at t path = at_path t.entries path

-- whether marks of the tree, or entries that are not directories, remove the path from the layers
-- below
abbrev pub removes : TreeRows → Path → Bool
removes t path = removed_by (at_path t.marks) (at_path t.entries) path

-- whether the tree removes the path from the layers below; never a path with a marker's name
abbrev pub cuts_at : TreeRows → Path → Bool
cuts_at t path = is_plain path && removes t path

-- the children of a directory, in the order of their names, with everything below them
pub record AreChildren (t : TreeRows) (path : Path) (children : List (Subtree Entry)) : Type 0 where
  pub forest : IsForest children
  pub at : (name : List ℕ) (q : Path)
      → entry_at t (path ++ name ∷ q) ≡ at_path (spread children) (name ∷ q)

-- the entry of a header where hard links end, in a layer
abbrev pub entry_of : ℕ → Head → Entry
entry_of layer head = record {
  kind = head.kind;
  exec = head.exec;
  place = record { layer = layer; header = head.offset };
  spec = head.spec;
  size = head.size;
  name_len = head.name_len;
}

-- the entry says what the header at its place says
abbrev pub IsReadIn : List ℕ → Entry → Type 0
IsReadIn a entry = entry ≡ entry_of entry.place.layer (head_of a entry.place.header)

-- the entry of the header h in layer i of a run whose lowest layer is the first: it has the place
-- of the header where hard links from h end, and says what that header says
pub record IsEntryOf (first : ℕ) (layers : List (List ℕ)) (i h : ℕ) (entry : Entry) : Type 0 where
  pub layer : entry.place.layer ≡ first + i
  pub end : (a : List ℕ) × (slice_get layers i ≡ Some a) × IsFinal a h entry.place.header
      × IsReadIn a entry

-- the tree is that of the run of layers whose lowest has the number first: it has an entry exactly
-- at each path that the run shows, and it cuts exactly what the run cuts
pub record IsTreeOf (first : ℕ) (layers : List (List ℕ)) (t : TreeRows) : Type 0 where
  pub rising : PathsRise t.entries
  pub shown : (path : Path) (i h : ℕ) → Shows layers path i h
      → IsSomeAnd (entry_at t path) (λ entry. IsEntryOf first layers i h entry)
  pub only : (path : Path) (entry : Entry) → entry_at t path ≡ Some entry
      → (i h : ℕ) × Shows layers path i h × IsEntryOf first layers i h entry
  pub cuts : (path : Path) → IsTrue (cuts_at t path) ↔ IsCut layers path

-- an entry, in the form of a stack's listing
abbrev pub listed : List (List ℕ) × Entry → Listed
listed row = record { path = row.0; layer = row.1.place.layer; header = row.1.place.header }

-- a tree's entries, in the form of a stack's listing
abbrev pub listing : TreeRows → List Listed
listing t = map listed t.entries
