-- romfs.rst, hard links, and which headers an image leads to.
use Rattle.std.specs.Prelude.{◌≡◌, ℕ, ◌⊎◌, List}
use Rattle.romfs_format.specs.declared.head.Kind.TheVariants.{HardLink, Directory}
use Rattle.romfs_format.specs.declared.head.End.{End}
use Rattle.romfs_format.specs.declared.head.End.TheVariants.{AtDirectory, AtOther, Nowhere}
use Rattle.romfs_format.specs.Fields.{root, IsInside, kind, spec, cleared}
use Rattle.romfs_format.specs.Chains.{IsFirst, IsNext, IsOpened, Stands, IsMember}

-- the fields that link headers into chains: first of a directory, and next of a header in a chain
pub data Field : Type 0 where
  first_of next_of : ℕ → Field

-- the field names the header h
abbrev pub IsLink : List ℕ → Field → ℕ → Type 0
IsLink a (first_of d) h = IsOpened a d × IsFirst a d h
IsLink a (next_of g) h = (d : ℕ) × Stands a d g × IsNext a g h

-- the header lies in the image and is a hard link
abbrev pub IsHardLink : List ℕ → ℕ → Type 0
IsHardLink a h = IsInside a h × (kind a h ≡ HardLink)

-- the header lies in the image and is a directory
abbrev pub IsDirectory : List ℕ → ℕ → Type 0
IsDirectory a h = IsInside a h × (kind a h ≡ Directory)

-- the destination of a hard link
abbrev pub destination : List ℕ → ℕ → ℕ
destination a h = cleared (spec a h)

-- g is on the destination chain of the hard link h
pub data IsDestination (a : List ℕ) : ℕ → ℕ → Type 0 where
  here : {h : ℕ} → IsHardLink a h → IsDestination a h (destination a h)
  there : {h g : ℕ} → IsHardLink a h → IsDestination a (destination a h) g → IsDestination a h g

-- the chain from h first leaves hard links at e
pub data IsFinal (a : List ℕ) : ℕ → ℕ → Type 0 where
  stays : {h : ℕ} → ¬ IsHardLink a h → IsFinal a h h
  follows : {h e : ℕ} → IsHardLink a h → IsFinal a (destination a h) e → IsFinal a h e

-- the end of the chain from h
abbrev pub EndsAs : List ℕ → ℕ → End → Type 0
EndsAs a h AtDirectory = (e : ℕ) × IsFinal a h e × IsDirectory a e
EndsAs a h AtOther = (e : ℕ) × IsFinal a h e × ¬ IsDirectory a e
EndsAs a h Nowhere = (e : ℕ) → ¬ IsFinal a h e

-- g is on the destination chain of a member
abbrev pub IsTarget : List ℕ → ℕ → Type 0
IsTarget a g = (d h : ℕ) × IsMember a d h × IsDestination a h g

-- the headers that the rules speak of: the root, each that a link names, and each on a member's
-- destination chain
abbrev pub IsReached : List ℕ → ℕ → Type 0
IsReached a h = (h ≡ root a) ⊎ ((f : Field) × IsLink a f h) ⊎ IsTarget a h
