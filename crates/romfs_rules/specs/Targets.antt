-- Sets of headers that contain the destinations of their hard links.
use Rattle.std.specs.Prelude.{◌≡◌, ℕ, ◌*◌, ◌⊎◌, List, length, Bool, true, false, get_or}
use Rattle.romfs_format.specs.Fields.{IsInside}
use Rattle.romfs_format.specs.Links.{IsHardLink, destination, IsDestination, IsTarget}
use Rattle.romfs_rules.specs.Marks.{IsMarked, AreMarks}

-- the marks are those of the headers on destination chains of members
abbrev pub AreTargets : List ℕ → List Bool → Type 0
AreTargets a marks = AreMarks a (IsTarget a) marks

-- the header that h leads to has a mark, or lies outside
abbrev pub IsFollowed : List ℕ → List Bool → ℕ → Type 0
IsFollowed a marks h = IsMarked marks (destination a h) ⊎ ¬ IsInside a (destination a h)

-- each hard link that has a mark is followed
pub record IsClosed (a : List ℕ) (marks : List Bool) : Type 0 where
  pub each : (k : ℕ) → get_or marks k false ≡ true → IsHardLink a (k * 16)
      → IsFollowed a marks (k * 16)

-- the new marks are the old ones, and those of headers on the destination chain of h, with the
-- destination of h among them
pub record FollowsLink (a : List ℕ) (h : ℕ) (old new : List Bool) : Type 0 where
  pub sized : length new ≡ length old
  pub kept : (k : ℕ) → get_or old k false ≡ true → get_or new k false ≡ true
  pub only : (k : ℕ) → get_or new k false ≡ true
      → (get_or old k false ≡ true) ⊎ (IsDestination a h (k * 16) × IsInside a (k * 16))
  pub followed : IsHardLink a h → IsFollowed a new h
