-- OCI image specification, layer chapter, "Whiteouts" and "Opaque Whiteout": what marks at paths
-- cut.
use Rattle.std.specs.Prelude.{ℕ, List, [], ◌∷◌, Bool, false, ◌||◌, not, Option, Some, None, option_map, nat_eq}
use Rattle.std.specs.List.{list_all, starts_with}
use Rattle.stack_model.specs.Stack.{marker}
use Rattle.stack_model.specs.Attributes.{is_directory}
use Rattle.layer_paths.specs.Rows.{at_path}
use Rattle.layer_paths.specs.declared.entries.Entry.{Entry}
use Rattle.layer_paths.specs.declared.entries.Mark.{Mark}

-- whether a mark at a path cuts the path itself
abbrev pub cuts_itself : Option Mark → Bool
cuts_itself None = false
cuts_itself (Some m) = m.cut

-- whether it cuts everything below the path
abbrev pub cuts_below : Option Mark → Bool
cuts_below None = false
cuts_below (Some m) = m.cut || m.opaque

-- whether marks cut a path: one at the path itself, or one at a path above it
abbrev pub cut_by : (List (List ℕ) → Option Mark) → List (List ℕ) → Bool
cut_by marks [] = cuts_itself (marks [])
cut_by marks (n ∷ path) = cuts_below (marks []) || cut_by (λ q. marks (n ∷ q)) path

-- the marks of values at paths, by what each value removes
abbrev pub marked : {T : Type 0} → (T → Mark) → List (List (List ℕ) × T) → List (List ℕ)
    → Option Mark
marked m rows path = option_map m (at_path rows path)

-- what an entry removes: its path with everything below it, unless it is a directory
abbrev pub mark_of : Entry → Mark
mark_of entry = record { cut = not (is_directory entry.kind); opaque = false }

-- whether entries that are not directories remove a path
abbrev pub covered_by : (List (List ℕ) → Option Entry) → List (List ℕ) → Bool
covered_by entries path = cut_by (λ q. option_map mark_of (entries q)) path

-- whether marks and entries remove a path
abbrev pub removed_by : (List (List ℕ) → Option Mark) → (List (List ℕ) → Option Entry)
    → List (List ℕ) → Bool
removed_by marks entries path = cut_by marks path || covered_by entries path

-- whether no name of the path is that of a marker
abbrev pub is_plain : List (List ℕ) → Bool
is_plain path = list_all (λ name. not (starts_with nat_eq name marker)) path

-- the upper entry
abbrev pub upper : Entry → Entry → Entry
upper low high = high

-- both marks
abbrev pub united : Mark → Mark → Mark
united low high = record { cut = low.cut || high.cut; opaque = low.opaque || high.opaque }
