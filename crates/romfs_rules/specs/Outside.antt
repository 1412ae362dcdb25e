-- Which headers outside the image the headers inside lead to.
use Rattle.std.specs.Prelude.{◌≡◌, ℕ, ◌+◌, ◌<◌, ◌≤◌, ◌⊎◌, List, length, Option, Some, None, nat_le, if◌then◌else◌}
use Rattle.romfs_format.specs.declared.limits.TheConstants.{HEAD_SIZE}
use Rattle.romfs_format.specs.Fields.{root}
use Rattle.romfs_format.specs.Chains.{IsSomeMember}
use Rattle.romfs_rules.specs.declared.outside.Outside.{Outside}
use Rattle.romfs_format.specs.Links.{first_of, next_of, IsLink, IsHardLink, destination, IsTarget, IsReached}

-- g is the destination of h, a hard link that is a member or that a member's hard link leads over
abbrev pub NamesDestination : List ℕ → ℕ → ℕ → Type 0
NamesDestination a h g = (IsSomeMember a h ⊎ IsTarget a h) × IsHardLink a h × (g ≡ destination a h)

-- spec.info of the header h names g, as the first header or as a destination
abbrev pub NamesBySpec : List ℕ → ℕ → ℕ → Type 0
NamesBySpec a h g = IsLink a (first_of h) g ⊎ NamesDestination a h g

-- a field of the header h names g, or h leads to g as a hard link
abbrev pub Names : List ℕ → ℕ → ℕ → Type 0
Names a h g = IsLink a (next_of h) g ⊎ NamesBySpec a h g

-- the number is the least of P; there is none if nothing is in P
pub record IsLeast (P : ℕ → Type 0) (least : Option ℕ) : Type 0 where
  pub is : (h : ℕ) → least ≡ Some h → P h
  pub whole : (h : ℕ) → P h → (g : ℕ) × (least ≡ Some g) × (g ≤ h)

-- before the root's header
abbrev pub IsBeforeRoot : List ℕ → ℕ → Type 0
IsBeforeRoot a h = h < root a

-- from the root's header on, and not completely in the image
abbrev pub IsPastEnd : List ℕ → ℕ → Type 0
IsPastEnd a h = (root a ≤ h) × (length a < h + HEAD_SIZE)

-- the number is the least reached header before the root's
abbrev pub IsLeastBelow : List ℕ → Option ℕ → Type 0
IsLeastBelow a least = IsLeast (λ h. IsReached a h × IsBeforeRoot a h) least

-- the number is the least reached header from the root's on that is not completely in the image
abbrev pub IsLeastPastEnd : List ℕ → Option ℕ → Type 0
IsLeastPastEnd a least = IsLeast (λ h. IsReached a h × IsPastEnd a h) least

-- the lesser of a word and the one found before
abbrev pub lesser : Option ℕ → ℕ → ℕ
lesser None word = word
lesser (Some least) word = if nat_le least word then least else word

-- what is found after is the least of what was found before and of the headers that both W and Q
-- hold for
pub record Notes (W Q : ℕ → Type 0) (before after : Option ℕ) : Type 0 where
  pub is : (h : ℕ) → after ≡ Some h → (before ≡ Some h) ⊎ (W h × Q h)
  pub old : (h : ℕ) → before ≡ Some h → (g : ℕ) × (after ≡ Some g) × (g ≤ h)
  pub new : (h : ℕ) → W h → Q h → (g : ℕ) × (after ≡ Some g) × (g ≤ h)

-- the same on both sides of the image, for the headers that W holds for
abbrev pub NotesOnBoth : List ℕ → (ℕ → Type 0) → Outside → Outside → Type 0
NotesOnBoth a W before after =
    Notes W (IsBeforeRoot a) before.below after.below
    × Notes W (IsPastEnd a) before.above after.above
