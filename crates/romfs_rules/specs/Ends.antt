-- The ends of an image's hard links, as walks along their chains found them.
use Rattle.std.specs.Prelude.{◌≡◌, ◌≢◌, ℕ, suc, ◌*◌, ◌/◌, ◌<◌, List, length, get_or}
use Rattle.romfs_format.specs.declared.head.End.{End}
use Rattle.romfs_format.specs.declared.head.End.TheVariants.{AtDirectory}
use Rattle.romfs_format.specs.Links.{IsHardLink, IsTarget, EndsAs}
use Rattle.romfs_rules.specs.Marks.{AreMarks}
use Rattle.romfs_sets.specs.Words.{Words}

-- by slot, walks has the number of the walk that passed there, or 0; by walk, from 1, ends has the
-- end of its chain
pub record HasEnds (a walks : List ℕ) (ends : List End) : Type 0 where
  pub each : (k n : ℕ) → get_or walks k 0 ≡ suc n
      → (n < length ends) × EndsAs a (k * 16) (get_or ends n AtDirectory)

-- and each hard link on the destination chain of a member was passed
pub record AreWalkedEnds (a : List ℕ) (walks : Words) (ends : List End) : Type 0 where
  pub targets : AreMarks a (IsTarget a) walks.slots
  pub sized : length walks.by_slot ≡ length a / 16
  pub known : HasEnds a walks.by_slot ends
  pub all : (h : ℕ) → IsTarget a h → IsHardLink a h → get_or walks.by_slot (h / 16) 0 ≢ 0

-- h is such a hard link of the image, whose ends these are
pub record KnowsEnd (a : List ℕ) (walks : Words) (ends : List End) (h : ℕ) : Type 0 where
  pub known : AreWalkedEnds a walks ends
  pub target : IsTarget a h
  pub hard : IsHardLink a h

-- the slot holds a hard link that was not passed
abbrev pub IsUnpassed : List ℕ → List ℕ → ℕ → Type 0
IsUnpassed a walks slot = IsHardLink a (slot * 16) × (get_or walks slot 0 ≡ 0)

-- and is on the destination chain of a member
abbrev pub IsUnpassedTarget : List ℕ → List ℕ → ℕ → Type 0
IsUnpassedTarget a walks slot = IsTarget a (slot * 16) × IsUnpassed a walks slot

-- what the marks are after a walk, from what they were before: none is lost, and the header it
-- began at has one
pub record Passes (from : ℕ) (before after : List ℕ) : Type 0 where
  pub sized : length after ≡ length before
  pub kept : (k : ℕ) → get_or before k 0 ≢ 0 → get_or after k 0 ≢ 0
  pub passed : get_or after (from / 16) 0 ≢ 0
