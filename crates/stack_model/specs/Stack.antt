-- OCI image specification, layer chapter, "Whiteouts" and "Opaque Whiteout": what layers laid one
-- on another show.
use Rattle.std.specs.Prelude.{◌≡◌, ◌≢◌, ℕ, zero, suc, ◌⊎◌, List, [], ◌∷◌, ◌++◌, IsTrue, nat_eq, codes}
use Rattle.std.specs.List.{AllByRecursion, starts_with}
use Rattle.romfs_format.specs.declared.head.Kind.TheVariants.{Directory}
use Rattle.romfs_format.specs.Fields.{kind}
use Rattle.romfs_format.specs.Chains.{Has}

-- names from the root down; the empty path is the root
abbrev pub Path : Type 0
Path = List (List ℕ)

-- the prefix of a marker's name
abbrev pub marker : List ℕ
marker = codes ".wh."

-- the name of an opaque marker
abbrev pub opaque : List ℕ
opaque = codes ".wh..wh..opq"

-- the name begins as a marker's does
abbrev pub IsMarker : List ℕ → Type 0
IsMarker name = IsTrue (starts_with nat_eq name marker)

-- no name of the path is that of a marker
abbrev pub IsPlain : Path → Type 0
IsPlain path = AllByRecursion (λ name. ¬ IsMarker name) path

-- the layer a has the path
abbrev pub IsIn : List ℕ → Path → Type 0
IsIn a path = (h : ℕ) × Has a path h

-- the layer a has a directory at the path
abbrev pub HasDirectory : List ℕ → Path → Type 0
HasDirectory a path = (h : ℕ) × Has a path h × (kind a h ≡ Directory)

-- the layer a has the path, with a header that is not a directory's
abbrev pub HasOther : List ℕ → Path → Type 0
HasOther a path = (h : ℕ) × Has a path h × (kind a h ≢ Directory)

-- in the directory q, the layer a removes what lower layers have at y and below: it holds a marker
-- for y, a marker for all of q, or y itself and not as a directory
abbrev pub CutsIn : List ℕ → Path → List ℕ → Type 0
CutsIn a q y =
    HasDirectory a q
    × (IsIn a (q ++ (marker ++ y) ∷ []) ⊎ IsIn a (q ++ opaque ∷ []) ⊎ HasOther a (q ++ y ∷ []))

-- the layer a cuts the path, at the path itself or at some prefix of it
abbrev pub Cuts : List ℕ → Path → Type 0
Cuts a path =
    IsPlain path
    × ((q : Path) × (y : List ℕ) × (rest : Path) × (path ≡ q ++ y ∷ rest) × CutsIn a q y)

-- some layer of the run cuts the path
abbrev pub IsCut : List (List ℕ) → Path → Type 0
IsCut [] path = ⊥
IsCut (a ∷ above) path = Cuts a path ⊎ IsCut above path

-- no layer of the run has the path or cuts it
abbrev pub IsFree : List (List ℕ) → Path → Type 0
IsFree layers path = AllByRecursion (λ a. ¬ IsIn a path × ¬ Cuts a path) layers

-- layer i of the run has the path, at h, and no layer above it has the path or cuts it
abbrev pub IsTop : List (List ℕ) → Path → ℕ → ℕ → Type 0
IsTop [] path i h = ⊥
IsTop (a ∷ above) path zero h = Has a path h × IsFree above path
IsTop (a ∷ above) path (suc i) h = IsTop above path i h

-- the run shows the path as the entry of layer i at h
abbrev pub Shows : List (List ℕ) → Path → ℕ → ℕ → Type 0
Shows layers path i h = IsPlain path × IsTop layers path i h
