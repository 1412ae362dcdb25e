-- romfs.rst, "next filehdr" and "spec.info": which headers are in which directory.
use Rattle.std.specs.Prelude.{◌≡◌, ◌≢◌, ℕ, zero, suc, ◌⊎◌, List, [], ◌∷◌, Some, codes}
use Rattle.romfs_format.specs.declared.head.Kind.TheVariants.{Directory}
use Rattle.romfs_format.specs.Fields.{root, IsInside, kind, next, spec, cleared, name}

-- h is the first header of the directory d: none if its spec.info is 0, or names d itself, unless d
-- is the root
abbrev pub IsFirst : List ℕ → ℕ → ℕ → Type 0
IsFirst a d h = (h ≡ cleared (spec a d)) × (h ≢ 0) × ((h ≡ d) → d ≡ root a)

-- g is the header after h
abbrev pub IsNext : List ℕ → ℕ → ℕ → Type 0
IsNext a h g = IsInside a h × (g ≡ next a h) × (g ≢ 0)

-- h is at position n, from 0, of the chain that begins at the first header of d
abbrev pub IsAt : List ℕ → ℕ → ℕ → ℕ → Type 0
IsAt a d zero h = IsFirst a d h
IsAt a d (suc n) g = (h : ℕ) × IsAt a d n h × IsNext a h g

-- h is in that chain
abbrev pub IsInChain : List ℕ → ℕ → ℕ → Type 0
IsInChain a d h = (n : ℕ) × IsAt a d n h

-- the header is named . or ..
abbrev pub IsDotted : List ℕ → ℕ → Type 0
IsDotted a h = IsInside a h × ((name a h ≡ Some (codes ".")) ⊎ (name a h ≡ Some (codes "..")))

-- only next is used of such a header in the chain of d: the root's own in its own chain, and each .
-- and ..
abbrev pub IsPassedOver : List ℕ → ℕ → ℕ → Type 0
IsPassedOver a d h = ((d ≡ root a) × (h ≡ root a)) ⊎ IsDotted a h

-- the directories that are opened: the root, and each member of kind directory of one that is
-- opened
pub data IsOpened (a : List ℕ) : ℕ → Type 0 where
  at_root : {d : ℕ} → d ≡ root a → IsOpened a d
  below : {d h : ℕ} → IsOpened a d → IsInChain a d h → ¬ IsPassedOver a d h
      → IsInside a h → kind a h ≡ Directory → IsOpened a h

-- h is in the chain of the opened directory d
pub record Stands (a : List ℕ) (d h : ℕ) : Type 0 where
  pub opened : IsOpened a d
  pub in_chain : IsInChain a d h

-- h is a member of the opened directory d
pub record IsMember (a : List ℕ) (d h : ℕ) : Type 0 where
  pub opened : IsOpened a d
  pub in_chain : IsInChain a d h
  pub kept : ¬ IsPassedOver a d h

-- a member of some directory
abbrev pub IsSomeMember : List ℕ → ℕ → Type 0
IsSomeMember a h = (d : ℕ) × IsMember a d h

-- names lead from the directory d to the header h, each that of a member of the one before
abbrev pub Leads : List ℕ → ℕ → List (List ℕ) → ℕ → Type 0
Leads a d [] h = d ≡ h
Leads a d (n ∷ path) h = (c : ℕ) × IsMember a d c × (name a c ≡ Some n) × Leads a c path h

-- the image has the path, at h; the empty path is the root
abbrev pub Has : List ℕ → List (List ℕ) → ℕ → Type 0
Has a path h = Leads a (root a) path h
