-- Sets of headers of an image, as marks by slot: a slot is 16 bytes, and each header inside the
-- image has one.
use Rattle.std.specs.Prelude.{◌≡◌, ◌≢◌, ℕ, ◌+◌, ◌*◌, ◌/◌, ◌^◌, ◌<◌, ◌≤◌, List, length, Bool, true, false, get_or, Contains}
use Rattle.romfs_format.specs.declared.head.Kind.TheVariants.{Directory}
use Rattle.romfs_format.specs.declared.limits.TheConstants.{HEAD_SIZE}
use Rattle.romfs_format.specs.Fields.{root, IsInside, kind, cleared}
use Rattle.romfs_format.specs.Chains.{IsInChain, IsDotted, IsOpened}
use Rattle.romfs_format.specs.Rules.{IsNamesake}

-- the accessible bytes of an image that keeps the volume rules: the root's header lies in them,
-- after the volume header
pub record IsVolumeImage (a : List ℕ) : Type 0 where
  pub small : length a < 2 ^ 32
  pub behind : 2 * HEAD_SIZE ≤ root a
  pub inside : root a + HEAD_SIZE ≤ length a

-- there may be a header at h
pub record HasSlot (a : List ℕ) (h : ℕ) : Type 0 where
  pub inside : IsInside a h
  pub aligned : cleared h ≡ h

-- the slot of the header has a mark
abbrev pub IsMarked : List Bool → ℕ → Type 0
IsMarked marks h = get_or marks (h / 16) false ≡ true

-- the header lies in the image, and has no mark
abbrev pub IsFresh : List ℕ → List Bool → ℕ → Type 0
IsFresh a marks h = IsInside a h × (h / 16 < length marks) × (get_or marks (h / 16) false ≡ false)

-- the marks are those of the headers inside the image for which P holds
pub record AreMarks (a : List ℕ) (P : ℕ → Type 0) (marks : List Bool) : Type 0 where
  pub sized : length marks ≡ length a / 16
  pub each : (k : ℕ) → get_or marks k false ≡ true → P (k * 16) × IsInside a (k * 16)
  pub all : (h : ℕ) → P h → IsInside a h → IsMarked marks h

-- the headers inside the image for which P holds, rising
pub record IsListOf (a : List ℕ) (P : ℕ → Type 0) (found : List ℕ) : Type 0 where
  pub each : (h : ℕ) → Contains found h → P h
  pub all : (h : ℕ) → P h → IsInside a h → cleared h ≡ h → Contains found h
  pub rising : (i j : ℕ) → i < j → j < length found → get_or found i 0 < get_or found j 0

-- h is in the root's chain
abbrev pub IsInRootChain : List ℕ → ℕ → Type 0
IsInRootChain a h = IsInChain a (root a) h

-- h is in the chain of an opened directory other than the root
pub record IsElsewhere (a : List ℕ) (h : ℕ) : Type 0 where
  pub dir : ℕ
  pub other : dir ≢ root a
  pub opened : IsOpened a dir
  pub in_chain : IsInChain a dir h

-- the root's header is
abbrev pub HasRootElsewhere : List ℕ → Type 0
HasRootElsewhere a = IsElsewhere a (root a)

-- the marks are those of the headers in the root's chain
abbrev pub AreInRootChain : List ℕ → List Bool → Type 0
AreInRootChain a marks = AreMarks a (IsInRootChain a) marks

-- the marks are those of the headers in chains of other opened directories
abbrev pub AreElsewhere : List ℕ → List Bool → Type 0
AreElsewhere a marks = AreMarks a (IsElsewhere a) marks

-- the header opens as a directory wherever it is a member
pub record Opens (a : List ℕ) (h : ℕ) : Type 0 where
  pub inside : IsInside a h
  pub kind : kind a h ≡ Directory
  pub kept : ¬ IsDotted a h

-- a member of the same directory with the same name has a lower place than h
abbrev pub HasSameName : List ℕ → ℕ → Type 0
HasSameName a h = (g : ℕ) × IsNamesake a g h
