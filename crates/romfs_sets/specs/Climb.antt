-- Numbered points, each of which leads on to one, and those with one of the same class along the
-- way.
use Rattle.std.specs.Prelude.{◌≡◌, ◌≢◌, ℕ, ◌^◌, ◌<◌, ◌≤◌, ◌⊎◌, List, [], ◌∷◌, length, min, max, get_or, set, reverse, Bool, true, false}
use Rattle.romfs_sets.specs.declared.found.Found.{Found}

-- y comes after x
pub data After (next : List ℕ) : ℕ → ℕ → Type 0 where
  one : {x y : ℕ} → get_or next x 0 ≡ y → After next x y
  more : {x y z : ℕ} → get_or next x 0 ≡ y → After next y z → After next x z

-- y is on the path
pub data On : List ℕ → ℕ → Type 0 where
  top : {x : ℕ} {path : List ℕ} → On (x ∷ path) x
  under : {x y : ℕ} {path : List ℕ} → On path y → On (x ∷ path) y

-- y is lower than x, is of its class, and comes before or after it
pub record IsLower (next class : List ℕ) (y x : ℕ) : Type 0 where
  pub below : y < x
  pub same : get_or class y 0 ≡ get_or class x 0
  pub along : After next x y ⊎ After next y x

-- a lower point of its class comes before or after x
abbrev pub HasLower : List ℕ → List ℕ → ℕ → Type 0
HasLower next class x = (y : ℕ) × IsLower next class y x

-- those noted are the points with a lower one of their class before or after them
pub record AreNoted (next class : List ℕ) (noted : List Bool) : Type 0 where
  pub sized : length noted ≡ length next
  pub each : (x : ℕ) → get_or noted x false ≡ true → HasLower next class x
  pub all : (x : ℕ) → x < length next → HasLower next class x → get_or noted x false ≡ true

-- n numbers, each below n
pub record AreBelow (xs : List ℕ) (n : ℕ) : Type 0 where
  pub sized : length xs ≡ n
  pub each : (k : ℕ) → k < n → get_or xs k 0 < n

-- x is on the list that begins at the number `from`, and goes on to siblings
pub data Ahead (sibling : List ℕ) : ℕ → ℕ → Type 0 where
  here : {x : ℕ} → x < length sibling → Ahead sibling x x
  later : {from x : ℕ} → from < length sibling → Ahead sibling (get_or sibling from 0) x
      → Ahead sibling from x

-- the list from the first of each point has those that lead to it
pub record AreLists (next first sibling : List ℕ) : Type 0 where
  pub firsts : length first ≡ length next
  pub siblings : length sibling ≡ length next
  pub rising : (x : ℕ) → x < length next → x < get_or sibling x 0
  pub same : (t x : ℕ) → t < length next → Ahead sibling (get_or first t 0) x → get_or next x 0 ≡ t
  pub whole : (x : ℕ) → x < length next → Ahead sibling (get_or first (get_or next x 0) 0) x

-- v is the lowest point of the class c on the path, or n if there is none
pub record IsLowest (class path : List ℕ) (n c v : ℕ) : Type 0 where
  pub there : (v ≡ n) ⊎ (On path v × (get_or class v 0 ≡ c))
  pub least : (y : ℕ) → On path y → get_or class y 0 ≡ c → v ≤ y

-- the lowest point of each class on the path
pub record IsLow (class low path : List ℕ) : Type 0 where
  pub sized : length low ≡ length class
  pub each : (c : ℕ) → c < length class → IsLowest class path (length class) c (get_or low c 0)

-- of the points of one class on the path all but the lowest are noted
pub record IsSpare (class path : List ℕ) (noted : List Bool) : Type 0 where
  pub sized : length noted ≡ length class
  pub inside : (x : ℕ) → On path x → x < length class
  pub each : (x y : ℕ) → On path x → On path y → get_or class x 0 ≡ get_or class y 0 → y < x
      → get_or noted x false ≡ true

-- it has been compared with what comes after a point that is entered
pub record IsCompared (next class : List ℕ) (entered noted : List Bool) : Type 0 where
  pub sized : length entered ≡ length next
  pub low : (x y : ℕ) → get_or entered x false ≡ true → After next x y
      → get_or class x 0 ≡ get_or class y 0 → y < x → get_or noted x false ≡ true
  pub high : (x y : ℕ) → get_or entered x false ≡ true → After next x y
      → get_or class x 0 ≡ get_or class y 0 → x < y → get_or noted y false ≡ true

-- each noted point has a lower one of its class before or after it
pub record AreLower (next class : List ℕ) (noted : List Bool) : Type 0 where
  pub each : (x : ℕ) → get_or noted x false ≡ true → HasLower next class x

-- the higher of two points is noted, if `old` is a point at all, and another than `at`
pub record IsNoted (before after : List Bool) (n old at : ℕ) : Type 0 where
  pub sized : length after ≡ length before
  pub kept : (x : ℕ) → get_or before x false ≡ true → get_or after x false ≡ true
  pub made : old < n → old ≢ at → get_or after (max old at) false ≡ true
  pub only : (x : ℕ) → get_or after x false ≡ true
      → (get_or before x false ≡ true) ⊎ ((x ≡ max old at) × (old < n) × (old ≢ at))

-- points: where each leads, its class, the first of those that lead to it, and what follows it
-- there
pub record Points : Type 0 where
  pub next : List ℕ
  pub class : List ℕ
  pub first : List ℕ
  pub sibling : List ℕ

-- they each lead on to one, have classes, and the lists of those that lead to each
pub record IsGraph (p : Points) : Type 0 where
  pub few : length p.next < 2 ^ 32
  pub leads : AreBelow p.next (length p.next)
  pub classes : AreBelow p.class (length p.next)
  pub lists : AreLists p.next p.first p.sibling

-- what a climb has found: the points that it has entered, those that it has noted, and the lowest
-- of each class on its path
pub record Findings : Type 0 where
  pub entered : List Bool
  pub noted : List Bool
  pub low : List ℕ

-- what the code's value says
abbrev pub findings : {A : Type 0} → Found A → Findings
findings found = record {
  entered = found.entered.items;
  noted = found.noted.items;
  low = found.low.items;
}

-- a point is put on the path, `lowest` being the lowest of its class before, and the higher of both
-- is noted
pub record Enters (next class : List ℕ) (at lowest : ℕ) (before after : Findings) : Type 0 where
  pub inside : at < length next
  pub room : at < length before.entered
  pub lowest_is : lowest ≡ get_or before.low (get_or class at 0) 0
  pub low : after.low ≡ set before.low (get_or class at 0) (min lowest at)
  pub entered : after.entered ≡ set before.entered at true
  pub noted : IsNoted before.noted after.noted (length next) lowest at

-- no class has a lowest on the path any more; what was entered and noted is unchanged
pub record Clears (class : List ℕ) (before after : Findings) : Type 0 where
  pub low : IsLow class after.low []
  pub entered : after.entered ≡ before.entered
  pub noted : after.noted ≡ before.noted

-- points of which each comes after each
pub record IsCycle (next cycle : List ℕ) : Type 0 where
  pub inside : (x : ℕ) → On cycle x → x < length next
  pub round : (x : ℕ) → On cycle x → On cycle (get_or next x 0)
  pub tied : (x y : ℕ) → On cycle x → On cycle y → After next x y

-- what has been found if the path holds a cycle, and what leads to the waiting points is still to
-- be entered
pub record IsFound (next class cycle waits : List ℕ) (found : Findings) : Type 0 where
  pub lowest : IsLow class found.low cycle
  pub spare : IsSpare class cycle found.noted
  pub compared : IsCompared next class found.entered found.noted
  pub lower : AreLower next class found.noted
  pub closed : (x : ℕ) → x < length next → get_or found.entered (get_or next x 0) false ≡ true
      → (get_or found.entered x false ≡ true) ⊎ On waits (get_or next x 0)

-- each mark before is one after
pub record AreMarksKept (before after : List Bool) : Type 0 where
  pub each : (x : ℕ) → get_or before x false ≡ true → get_or after x false ≡ true

-- the list from `at` is that from `from` without those entered before it
pub record IsSkipped (sibling : List ℕ) (entered : List Bool) (from at : ℕ) : Type 0 where
  pub each : (x : ℕ) → Ahead sibling at x → Ahead sibling from x
  pub all : (x : ℕ) → Ahead sibling from x → (get_or entered x false ≡ true) ⊎ Ahead sibling at x

-- each point that leads to one of these is one of these
pub record IsClosed (next : List ℕ) (entered : List Bool) : Type 0 where
  pub each : (x : ℕ) → x < length next → get_or entered (get_or next x 0) false ≡ true
      → get_or entered x false ≡ true

-- a walk from one point to another, over points that were not entered before; `visited` marks those
-- that it has left
pub record IsFreshWalk (next : List ℕ) (entered visited : List Bool) (from to : ℕ) : Type 0 where
  pub fresh : get_or entered to false ≡ false
  pub leads : (to ≡ from) ⊎ After next from to
  pub left : (x : ℕ) → get_or visited x false ≡ true
      → (get_or entered x false ≡ true) ⊎ After next x to

-- a walk from one point to another that comes back to itself, whatever has been entered before
pub record IsMet (next : List ℕ) (before after : List Bool) (from to : ℕ) : Type 0 where
  pub inside : to < length next
  pub walk : (entered : List Bool) → IsClosed next entered → AreMarksKept before entered
      → get_or entered from false ≡ false → IsFreshWalk next entered after from to
  pub cycle : (entered : List Bool) → IsClosed next entered → AreMarksKept before entered
      → get_or entered from false ≡ false → After next to to

-- the cycle of a point, entered, as the path of what has been found
pub record IsGathered (next class : List ℕ) (from : ℕ) (cycle : List ℕ)
    (found : Findings) : Type 0 where
  pub start : On cycle from
  pub is : IsCycle next (reverse cycle)
  pub right : IsFound next class (reverse cycle) cycle found
  pub all : (x : ℕ) → On cycle x → get_or found.entered x false ≡ true
