-- What a walk down from the root finds in an image that plainly keeps every rule.
use Rattle.std.specs.Prelude.{◌≡◌, ◌≢◌, ℕ, ◌+◌, ◌/◌, ◌<◌, ◌≤◌, ◌⊎◌, ◌↔◌, List, length, get_or, Bool, true, false, not, IsTrue, count_by, Some, Contains}
use Rattle.romfs_sets.specs.Names.{name_hash}
use Rattle.romfs_format.specs.declared.head.Kind.TheVariants.{HardLink, Directory}
use Rattle.romfs_format.specs.declared.head.Head.{Head}
use Rattle.romfs_format.specs.declared.limits.TheConstants.{MAX_NAMES}
use Rattle.romfs_format.specs.declared.rule.Profile.TheVariants.{Usual}
use Rattle.romfs_format.specs.declared.rule.Rule.TheVariants.{TooDeep}
use Rattle.romfs_format.specs.Fields.{root, IsInside, kind, next, spec, size, name}
use Rattle.romfs_format.specs.Chains.{IsAt, IsDotted}
use Rattle.romfs_format.specs.Links.{destination}
use Rattle.romfs_format.specs.Rules.{HasData, IsBadName, EndsOutside, HasLongTarget, HasLargeMajor, BreaksHeader}
use Rattle.romfs_rules.specs.Judge.{KeepsAllHeaderRules}
use Rattle.romfs_rules.specs.Marks.{IsMarked, Opens}
use Rattle.romfs_rules.specs.Names.{kept_names, AreNameHashes, HaveNamesApart}
use Rattle.romfs_rules.specs.declared.plain.Folder.{Folder}
use Rattle.romfs_rules.specs.declared.plain.Found.{Found}

-- the data, the target and the major number of the header with this name break no rule
pub record HasPlainBody (a : List ℕ) (h : ℕ) (text : List ℕ) : Type 0 where
  pub within : ¬ (HasData a h × EndsOutside a h text)
  pub target : ¬ HasLongTarget a h
  pub major : ¬ HasLargeMajor a h

-- hard links end at g, which breaks no rule
pub record IsPlainEnd (a : List ℕ) (g : ℕ) : Type 0 where
  pub inside : IsInside a g
  pub text : List ℕ
  pub is_name : name a g ≡ Some text
  pub no_link : kind a g ≢ HardLink
  pub no_directory : kind a g ≢ Directory
  pub body : HasPlainBody a g text

-- the member h with this name breaks no rule by its own bytes, and as a hard link leads directly to
-- its end
pub record IsPlainMember (a : List ℕ) (h : ℕ) (text : List ℕ) : Type 0 where
  pub good : ¬ IsBadName text
  pub body : HasPlainBody a h text
  pub ends : kind a h ≡ HardLink → IsPlainEnd a (destination a h)

-- h breaks no such rule in the chain of w
pub record IsPlainHeader (a : List ℕ) (w : Folder) (h : ℕ) : Type 0 where
  pub inside : IsInside a h
  pub text : List ℕ
  pub is_name : name a h ≡ Some text
  pub depth : w.names < MAX_NAMES
  pub own : h ≡ root a → w.header ≡ root a
  pub member : h ≢ root a → ¬ IsDotted a h → IsPlainMember a h text

-- the fields are those of the header at h
abbrev pub HasFields : List ℕ → ℕ → Head → Type 0
HasFields a h head = (head.next ≡ next a h) × (head.kind ≡ kind a h) × (head.spec ≡ spec a h)
    × (head.size ≡ size a h)

-- it is plain, and this is what a walk needs to go on
pub record IsFound (a : List ℕ) (w : Folder) (h : ℕ) (found : Found) : Type 0 where
  pub plain : IsPlainHeader a w h
  pub mixed : (q : List ℕ) → name a h ≡ Some q → found.hash ≡ name_hash q
  pub follows : found.next ≡ next a h
  pub opening : IsTrue found.opens ↔ Opens a h

-- the directory h, to which n names lead
abbrev pub folder : ℕ → ℕ → Folder
folder h n = record { header = h; names = n }

-- how far a walk down from the root has come: the headers that it has reached have a mark, these
-- directories are still to come, and of the chain that it follows last it has passed these headers,
-- whose names have these hashes
pub record WalkState : Type 0 where
  pub marks : List Bool
  pub todo : List Folder
  pub heads : List ℕ
  pub hashes : List ℕ

-- h is at position i of the chain of w, as a walk along it found it: it had no mark before, and is
-- still to come as a directory, if it is one
pub record IsPassed (a : List ℕ) (w : Folder) (old new : WalkState) (i h : ℕ) : Type 0 where
  pub at : IsAt a w.header i h
  pub plain : IsPlainHeader a w h
  pub unmarked : get_or old.marks (h / 16) false ≡ false
  pub marked : IsMarked new.marks h
  pub comes : h ≢ root a → Opens a h → Contains new.todo (folder h (w.names + 1))

-- the front of the chain of w was passed: the headers of the new state, from its first on
pub record PassesFront (a : List ℕ) (w : Folder) (old new : WalkState) : Type 0 where
  pub sized : length new.marks ≡ length old.marks
  pub count : length new.heads + count_by not new.marks ≡ count_by not old.marks
  pub each : (i : ℕ) → i < length new.heads → IsPassed a w old new i (get_or new.heads i 0)
  pub apart : (i j : ℕ) → i < length new.heads → j < length new.heads
      → get_or new.heads i 0 ≡ get_or new.heads j 0 → i ≡ j
  pub kept : (k : ℕ) → get_or old.marks k false ≡ true → get_or new.marks k false ≡ true
  pub waits : (v : Folder) → Contains old.todo v → Contains new.todo v
  pub inside : (v : Folder) → Contains new.todo v → Contains old.todo v ⊎ IsInside a v.header
  pub few : length new.todo ≤ length old.todo + length new.heads

-- the full chain was passed, and the hashes are those of its names
pub record PassesChain (a : List ℕ) (w : Folder) (old new : WalkState) : Type 0 where
  pub front : PassesFront a w old new
  pub hashed : AreNameHashes (kept_names a new.heads) (length new.heads) new.hashes
  pub whole : (i h : ℕ) → IsAt a w.header i h → i < length new.heads

-- and no two of its members have the same name
pub record PassesFolder (a : List ℕ) (w : Folder) (old new : WalkState) : Type 0 where
  pub chain : PassesChain a w old new
  pub apart : HaveNamesApart a new.heads

-- a header of the chain of w, which is added to the directories to come if it is one
pub record AddsFolder (a : List ℕ) (w : Folder) (at : ℕ) (before after : List Folder) : Type 0 where
  pub comes : at ≢ root a → Opens a at → Contains after (folder at (w.names + 1))
  pub waits : (v : Folder) → Contains before v → Contains after v
  pub inside : (v : Folder) → Contains after v → Contains before v ⊎ IsInside a v.header
  pub few : length after ≤ length before + 1

-- no rule after those of the volume header is broken
pub record KeepsPlainly (a : List ℕ) : Type 0 where
  pub headers : KeepsAllHeaderRules Usual a
  pub depth : (h : ℕ) → ¬ BreaksHeader Usual a TooDeep h
