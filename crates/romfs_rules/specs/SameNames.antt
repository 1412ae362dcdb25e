-- The headers in chains, by number, and those whose name another member of their directory has.
use Rattle.std.specs.Prelude.{◌≡◌, ℕ, ◌+◌, ◌/◌, ◌<◌, List, length, get_or, Bool, true, false, Contains}
use Rattle.romfs_format.specs.Fields.{root, IsInside}
use Rattle.romfs_format.specs.Chains.{IsNext, Stands}
use Rattle.romfs_rules.specs.Marks.{HasSameName, IsElsewhere}
use Rattle.romfs_sets.specs.Sets.{rank}

-- exactly the headers with the name of a member of their directory at a lower place, rising and
-- each once
pub record HaveSameNames (a found : List ℕ) : Type 0 where
  pub each : (h : ℕ) → Contains found h → HasSameName a h
  pub all : (h : ℕ) → HasSameName a h → Contains found h
  pub rising : (i j : ℕ) → i < j → j < length found → get_or found i 0 < get_or found j 0

-- the same if the root's header is in no chain but its own; in any case headers that rise
pub record HaveSameNamesIfAlone (a found : List ℕ) : Type 0 where
  pub names : ¬ IsElsewhere a (root a) → HaveSameNames a found
  pub rising : (i j : ℕ) → i < j → j < length found → get_or found i 0 < get_or found j 0

-- h lies in the image, in the chain of some opened directory
pub record IsLinked (a : List ℕ) (h : ℕ) : Type 0 where
  pub inside : IsInside a h
  pub dir : ℕ
  pub stands : Stands a dir h

-- all headers that are linked, in order, each at the number of its slot
pub record AreNumbered (a heads : List ℕ) (set : List Bool) : Type 0 where
  pub sized : length set ≡ length a / 16
  pub rising : (i j : ℕ) → i < j → j < length heads → get_or heads i 0 < get_or heads j 0
  pub each : (i : ℕ) → i < length heads → IsLinked a (get_or heads i 0)
  pub place : (h : ℕ) → IsLinked a h
      → (rank set (h / 16) < length heads) × (get_or heads (rank set (h / 16)) 0 ≡ h)

-- the number of the header after h, or the count of headers if there is none inside the image
pub record IsNextNumber (a heads : List ℕ) (h number : ℕ) : Type 0 where
  pub below : number < length heads + 1
  pub only : number < length heads → IsNext a h (get_or heads number 0)
  pub all : (g : ℕ) → IsNext a h g → IsInside a g
      → (number < length heads) × (get_or heads number 0 ≡ g)

-- the number of the header after each, and one that leads to itself for none
pub record AreNextNumbers (a heads next : List ℕ) : Type 0 where
  pub sized : length next ≡ length heads + 1
  pub last : get_or next (length heads) 0 ≡ length heads
  pub each : (i : ℕ) → i < length heads → IsNextNumber a heads (get_or heads i 0) (get_or next i 0)

-- those of the headers that are noted, in order
pub record AreChosen (heads : List ℕ) (noted : List Bool) (count : ℕ)
    (found : List ℕ) : Type 0 where
  pub each : (h : ℕ) → Contains found h
      → (i : ℕ) × (i < count) × (get_or noted i false ≡ true) × (get_or heads i 0 ≡ h)
  pub all : (i : ℕ) → i < count → get_or noted i false ≡ true → Contains found (get_or heads i 0)
  pub rising : (i j : ℕ) → i < j → j < length found → get_or found i 0 < get_or found j 0
