-- Counting the links that name each header.
use Rattle.std.specs.Prelude.{◌≡◌, ℕ, ◌/◌, ◌⊎◌, ◌↔◌, List, length, Bool, true, false, get_or, Option, Some}
use Rattle.romfs_format.specs.Fields.{IsInside}
use Rattle.romfs_format.specs.Links.{first_of, next_of, IsLink}
use Rattle.romfs_format.specs.Rules.{IsLinkedTwice}
use Rattle.romfs_rules.specs.Marks.{IsListOf}
use Rattle.romfs_rules.specs.Leads.{IsTheOne}

-- the headers that two links name, rising
abbrev pub AreTwice : List ℕ → List ℕ → Type 0
AreTwice a found = IsListOf a (IsLinkedTwice a) found

-- k is the slot of the header to, which exists and lies in the image
abbrev pub IsSlotOf : List ℕ → Option ℕ → ℕ → Type 0
IsSlotOf a to k = (h : ℕ) × (to ≡ Some h) × IsInside a h × (k ≡ h / 16)

-- one more link, to the header to: once marks the slots that some link names, twice those that two
-- name
pub record Counts (a : List ℕ) (to : Option ℕ)
    (once twice once_after twice_after : List Bool) : Type 0 where
  pub once_sized : length once_after ≡ length once
  pub twice_sized : length twice_after ≡ length twice
  pub once_each : (k : ℕ)
      → (get_or once_after k false ≡ true) ↔ ((get_or once k false ≡ true) ⊎ IsSlotOf a to k)
  pub twice_each : (k : ℕ)
      → (get_or twice_after k false ≡ true)
      ↔ ((get_or twice k false ≡ true) ⊎ (IsSlotOf a to k × (get_or once k false ≡ true)))

-- the links of both fields of a header
pub record CountsBoth (a : List ℕ) (at : ℕ)
    (once twice once_after twice_after : List Bool) : Type 0 where
  pub next : Option ℕ
  pub first : Option ℕ
  pub is_next : IsTheOne (IsLink a (next_of at)) next
  pub is_first : IsTheOne (IsLink a (first_of at)) first
  pub once_between : List Bool
  pub twice_between : List Bool
  pub counts_next : Counts a next once twice once_between twice_between
  pub counts_first : Counts a first once_between twice_between once_after twice_after
