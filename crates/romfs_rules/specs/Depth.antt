-- Headers whose paths have too many names.
use Rattle.std.specs.Prelude.{◌≡◌, ◌≢◌, ℕ, ◌+◌, ◌≤◌, ◌⊎◌, List, [], ◌∷◌, min, Option, Some, None}
use Rattle.std.specs.Option.{option_map_or}
use Rattle.romfs_rules.specs.declared.depth.Waiting.{Waiting}
use Rattle.romfs_format.specs.declared.limits.TheConstants.{MAX_NAMES}
use Rattle.romfs_format.specs.Fields.{root}
use Rattle.romfs_format.specs.Chains.{IsFirst, IsNext, IsDotted}
use Rattle.romfs_rules.specs.Marks.{Opens}

-- the header is a member, and its path has too many names
abbrev pub IsTooDeep : List ℕ → Waiting → Type 0
IsTooDeep a w = (MAX_NAMES ≤ w.names) × (w.header ≢ root a) × ¬ IsDotted a w.header

-- the least header so far, if w reaches it
abbrev pub NotesDeep : List ℕ → Waiting → Option ℕ → Option ℕ → Type 0
NotesDeep a w deep after =
    (IsTooDeep a w × (after ≡ Some (option_map_or (λ h. min h w.header) deep w.header)))
    ⊎ ((¬ IsTooDeep a w) × (after ≡ deep))

-- the header, if there is one, to be waited for
abbrev pub waiting : Option ℕ → ℕ → List Waiting
waiting None n = []
waiting (Some h) n = record { header = h; names = n } ∷ []

-- what w leads to: the header after it, and below a directory the first, one name further down
pub data LeadsDown (a : List ℕ) : Waiting → Waiting → Type 0 where
  on : {h g n : ℕ} → IsNext a h g
      → LeadsDown a (record { header = h; names = n }) (record { header = g; names = n })
  down : {h g n : ℕ} → h ≢ root a → Opens a h → IsFirst a h g
      → LeadsDown a (record { header = h; names = n }) (record { header = g; names = n + 1 })
