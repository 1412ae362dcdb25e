-- Which header leads to which: by next, as a directory by its first file, as a hard link by its
-- destination.
use Rattle.std.specs.Prelude.{◌≡◌, ◌≢◌, ℕ, ◌⊎◌, ◌↔◌, List, ◌++◌, length, ◌≤◌, Option, Some, Contains}
use Rattle.romfs_format.specs.Fields.{root}
use Rattle.romfs_format.specs.Chains.{IsFirst, IsNext}
use Rattle.romfs_rules.specs.Marks.{IsInRootChain, IsElsewhere, Opens}

-- h is in the chain of some opened directory
abbrev pub IsInSomeChain : List ℕ → ℕ → Type 0
IsInSomeChain a h = IsInRootChain a h ⊎ IsElsewhere a h

-- h is in a chain where it is not passed over as the root's own
abbrev pub StandsKept : List ℕ → ℕ → Type 0
StandsKept a h = (IsInRootChain a h × (h ≢ root a)) ⊎ IsElsewhere a h

-- P holds for the word, if there is one, and for no other header
pub record IsTheOne (P : ℕ → Type 0) (word : Option ℕ) : Type 0 where
  pub each : (h : ℕ) → (word ≡ Some h) ↔ P h

-- g is the first header of h, which is a directory other than the root
abbrev pub IsFirstBelow : List ℕ → ℕ → ℕ → Type 0
IsFirstBelow a h g = (h ≢ root a) × Opens a h × IsFirst a h g

-- h leads on to g in chains other than the root's: by next, or as a directory by first
pub data LeadsOn (a : List ℕ) : ℕ → ℕ → Type 0 where
  on : {h g : ℕ} → IsNext a h g → LeadsOn a h g
  down : {h g : ℕ} → h ≢ root a → Opens a h → IsFirst a h g → LeadsOn a h g

-- first of a directory other than the root that the root holds
pub record IsStart (a : List ℕ) (g : ℕ) : Type 0 where
  pub dir : ℕ
  pub in_chain : IsInRootChain a dir
  pub other : dir ≢ root a
  pub opens : Opens a dir
  pub first : IsFirst a dir g

-- the words are those with which the walk over the other chains begins
pub record AreStarts (a words : List ℕ) : Type 0 where
  pub each : (g : ℕ) → Contains words g → IsStart a g
  pub all : (g : ℕ) → IsStart a g → Contains words g

-- the list after is the one before, and then all of P, which are two at most
pub record Adds {X : Type 0} (P : X → Type 0) (before after : List X) : Type 0 where
  pub new : List X
  pub is : after ≡ before ++ new
  pub few : length new ≤ 2
  pub only : (x : X) → Contains new x → P x
  pub whole : (x : X) → P x → Contains new x
