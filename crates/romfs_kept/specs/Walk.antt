-- A walk over the headers of an image: what it has added, and what it still has to look at.
use Rattle.std.specs.Prelude.{◌≡◌, ◌≢◌, ℕ, ◌+◌, ◌*◌, ◌/◌, ◌%◌, ◌<◌, ◌≤◌, ◌==◌, ◌&&◌, ◌||◌, ◌⊎◌, List, [], length, take, get_or, Bool, false, nat_le, IsTrue, Some, Contains}
use Rattle.devices.specs.Sources.{Source, IfShown}
use Rattle.romfs_format.specs.declared.head.Kind.TheVariants.{Directory, HardLink, SymLink}
use Rattle.romfs_format.specs.declared.limits.TheConstants.{MAX_TARGET_SIZE}
use Rattle.romfs_format.specs.Fields.{root, word, IsInside, kind_of, kind, next, spec, size, name, data_at, cleared}
use Rattle.romfs_kept.specs.declared.pieces.Piece.{Piece}
use Rattle.romfs_kept.specs.Pieces.{HasBlock, AreRight}
use Rattle.romfs_kept.specs.Reads.{Extent}

-- the blocks of a name that begins at p were added
pub record HasText (pieces : List Piece) (xs : List ℕ) (p : ℕ) : Type 0 where
  pub each : (i : ℕ) → i < 256 → p + i < length xs
      → ((j : ℕ) → j < i / 16 * 16 → get_or xs (p + j) 0 ≢ 0) → HasBlock pieces ((p + i) / 16)

-- the blocks of the target of a symbolic link were added, unless it is too long
pub record HasTarget (pieces : List Piece) (xs : List ℕ) (h : ℕ) : Type 0 where
  pub each : kind xs h ≡ SymLink → size xs h ≤ MAX_TARGET_SIZE
      → (n : List ℕ) → name xs h ≡ Some n
      → (i : ℕ) → i < size xs h → data_at h n + i < length xs
      → HasBlock pieces ((data_at h n + i) / 16)

-- the blocks of a target that begins at a place were added, if the words are a link's
pub record IsTargetAdded (xs : List ℕ) (from first count : ℕ) (old new : List Piece) : Type 0 where
  pub right : AreRight xs old → AreRight xs new
  pub stays : (b : ℕ) → HasBlock old b → HasBlock new b
  pub has : kind_of (first % 8) ≡ SymLink → count ≤ MAX_TARGET_SIZE
      → (i : ℕ) → i < count → from + i < length xs → HasBlock new ((from + i) / 16)

-- the same of bytes that are shown
abbrev pub HasAddedTarget :
    {S : Type 0} → (S → Source) → Extent S → ℕ → ℕ → ℕ → List Piece → List Piece → Type 0
HasAddedTarget of x from first count old new =
    IfShown (of x.source) (λ b. IsTargetAdded (take x.size b) from first count old new)

-- the header at a place was added with its name and target, and the words are its first two
pub record IsVisit (xs : List ℕ) (at : ℕ) (old new : List Piece) (first second : ℕ) : Type 0 where
  pub right : AreRight xs old → AreRight xs new
  pub stays : (b : ℕ) → HasBlock old b → HasBlock new b
  pub head : HasBlock new (at / 16)
  pub text : HasText new xs (at + 16)
  pub target : HasTarget new xs at
  pub first_is : first ≡ word xs at
  pub second_is : second ≡ word xs (at + 4)

-- the same of bytes that are shown
abbrev pub HasVisited :
    {S : Type 0} → (S → Source) → Extent S → ℕ → List Piece → List Piece → ℕ → ℕ → Type 0
HasVisited of x at old new first second =
    IfShown (of x.source) (λ b. IsVisit (take x.size b) at old new first second)

-- the first bytes were added, and the root is at this place
pub record IsFrontAdded (xs : List ℕ) (root_at : ℕ) (new : List Piece) : Type 0 where
  pub right : AreRight xs new
  pub has : (i : ℕ) → i < 32 → HasBlock new i
  pub is : root_at ≡ root xs

-- the same of bytes that are shown
abbrev pub HasFront : {S : Type 0} → (S → Source) → Extent S → ℕ → List Piece → Type 0
HasFront of x root_at new = IfShown (of x.source) (λ b. IsFrontAdded (take x.size b) root_at new)

-- the place is noted: its slot is in the set, or it is outside and leads nowhere
abbrev pub is_noted : ℕ → List Bool → ℕ → Bool
is_noted size slots h = (h % 16 == 0) && (nat_le size h || get_or slots (h / 16) false)

-- a place now waits, if it was not noted before and the test says so
pub record HasPushed (old_todo new_todo : List ℕ) (old new : ℕ → Bool) (test : Bool)
    (place : ℕ) : Type 0 where
  pub grown : (h : ℕ) → Contains old_todo h → Contains new_todo h
  pub from : (h : ℕ) → Contains new_todo h → Contains old_todo h ⊎ (h ≡ place)
  pub stays : (h : ℕ) → IsTrue (old h) → IsTrue (new h)
  pub has : IsTrue test → IsTrue (new place)
  pub only : (h : ℕ) → IsTrue (new h) → IsTrue (old h) ⊎ ((h ≡ place) × Contains new_todo h)

-- the header is one whose spec.info is followed
abbrev pub GoesDown : List ℕ → ℕ → Type 0
GoesDown xs h =
    (h ≡ root xs) ⊎ (IsInside xs h × ((kind xs h ≡ Directory) ⊎ (kind xs h ≡ HardLink)))

-- one header was added, and what it leads to was noted
pub record IsDone (xs : List ℕ) (pieces : List Piece) (noted : ℕ → Bool) (h : ℕ) : Type 0 where
  pub head : HasBlock pieces (h / 16)
  pub text : HasText pieces xs (h + 16)
  pub target : HasTarget pieces xs h
  pub to_next : IsInside xs h → next xs h ≢ 0 → IsTrue (noted (next xs h))
  pub to_spec : GoesDown xs h → IsTrue (noted (cleared (spec xs h)))

-- each place inside that was noted waits or is done
pub record IsWalking (xs : List ℕ) (pieces : List Piece) (todo : List ℕ)
    (noted : ℕ → Bool) : Type 0 where
  pub right : AreRight xs pieces
  pub front : (i : ℕ) → i < 32 → HasBlock pieces i
  pub at_root : IsTrue (noted (root xs))
  pub each : (h : ℕ) → IsTrue (noted h) → h < length xs
      → Contains todo h ⊎ IsDone xs pieces noted h

-- the same of bytes that are shown, from the root on
abbrev pub IsUnderWay :
    {S : Type 0} → (S → Source) → Extent S → ℕ → List Piece → List ℕ → (ℕ → Bool) → Type 0
IsUnderWay of x root_at pieces todo noted =
    IfShown (of x.source) (λ b.
    (root_at ≡ root (take x.size b)) × IsWalking (take x.size b) pieces todo noted)

-- every place inside that was noted is done
abbrev pub HasWalked : {S : Type 0} → (S → Source) → Extent S → List Piece → Type 0
HasWalked of x pieces =
    IfShown (of x.source) (λ b.
    (noted : ℕ → Bool) × IsWalking (take x.size b) pieces [] noted
    × ((h : ℕ) → IsTrue (noted h) → h % 16 ≡ 0))
