-- One layer, read as a tree: what is at and below a header, and what is cut there.
use Rattle.std.specs.Prelude.{◌≡◌, ◌≢◌, ℕ, ◌+◌, ◌⊎◌, ◌↔◌, List, [], ◌∷◌, ◌++◌, length, All, true, false, Option, Some, None, MatchOption, option_to_list, IsSomeAnd, IsTrue, slice_get, codes}
use Rattle.std.specs.List.{AllByRecursion}
use Rattle.std.specs.declared.cmp.Ordering.TheVariants.{Less}
use Rattle.romfs_format.specs.declared.head.Head.{Head}
use Rattle.romfs_format.specs.declared.head.Kind.TheVariants.{Directory}
use Rattle.romfs_format.specs.declared.limits.TheConstants.{MAX_NAMES}
use Rattle.romfs_format.specs.Fields.{kind, name}
use Rattle.romfs_format.specs.Chains.{IsMember, Leads, Has}
use Rattle.romfs_format.specs.Links.{IsFinal}
use Rattle.romfs_reader.specs.Images.{IsImage}
use Rattle.romfs_reader.specs.Readers.{IsGiven}
use Rattle.stack_model.specs.Stack.{Path, IsPlain, IsMarker, marker, opaque}
use Rattle.layer_paths.specs.Rows.{Subtree, name_cmp, whole, at_path, IsRising}
use Rattle.layer_paths.specs.declared.entries.Entry.{Entry}
use Rattle.layer_paths.specs.declared.entries.Mark.{Mark}
use Rattle.layer_tree.specs.declared.members.KeyedMember.{KeyedMember}
use Rattle.layer_tree.specs.declared.reading.Branches.{Branches}
use Rattle.layer_tree.specs.Members.{NamedMember, members_in, IsRead}
use Rattle.layer_paths.specs.Marks.{removed_by}
use Rattle.layer_paths.specs.Trees.{IsReadIn}

-- the member comes before the other one by its name
abbrev pub IsBefore : NamedMember → NamedMember → Type 0
IsBefore m n = name_cmp m.name n.name ≡ Less

-- members in the order of their names, no two with one name
abbrev pub NamedRise : List NamedMember → Type 0
NamedRise [] = Unit {0}
NamedRise (m ∷ ms) = AllByRecursion (IsBefore m) ms × NamedRise ms

-- a member of the directory d with its name
pub record IsNamedMember (a : List ℕ) (d : ℕ) (m : NamedMember) : Type 0 where
  pub given : IsGiven a m.head
  pub member : IsMember a d m.head.offset
  pub name : name a m.head.offset ≡ Some m.name

-- ms are the members of the directory d, in the order of their names
pub record AreByName (a : List ℕ) (d : ℕ) (ms : List NamedMember) : Type 0 where
  pub rising : NamedRise ms
  pub each : AllByRecursion (IsNamedMember a d) ms
  pub whole : (h : ℕ) → IsMember a d h
      → (k : ℕ) × (m : NamedMember) × (slice_get ms k ≡ Some m) × (m.head.offset ≡ h)

-- these are the members of the directory d, in the order of their names, by the places of their
-- headers
pub record AreSorted (a : List ℕ) (d : ℕ) (ms : List KeyedMember) : Type 0 where
  pub by_name : AreByName a d (members_in a ms)
  pub read : All (IsRead a) ms

-- a header can be read in a layer: the image is sound, the ends kept so far belong to it, and it
-- gives this header
pub record IsReadable (a kept : List ℕ) (head : Head) : Type 0 where
  pub sound : IsImage a
  pub ends : kept ≡ a
  pub given : IsGiven a head

-- a path leads to h, and it could have this many more names
abbrev pub IsAtDepth : List ℕ → ℕ → ℕ → Type 0
IsAtDepth a h left = (path : Path) × Has a path h × (length path + left ≡ MAX_NAMES)

-- the part of an opaque marker's name after .wh.
abbrev pub rest_of_opaque : List ℕ
rest_of_opaque = codes ".wh..opq"

-- some member of the directory d has the name
abbrev pub HasNamed : List ℕ → ℕ → List ℕ → Type 0
HasNamed a d n = (c : ℕ) × IsMember a d c × (name a c ≡ Some n)

-- the layer cuts a path from the directory d: by a marker for its first name, by an opaque marker,
-- by an entry that is not a directory, or deeper
abbrev pub CutsFrom : List ℕ → ℕ → Path → Type 0
CutsFrom a d [] = ⊥
CutsFrom a d (n ∷ path) =
    HasNamed a d (marker ++ n) ⊎ HasNamed a d opaque
    ⊎ ((c : ℕ) × IsMember a d c × (name a c ≡ Some n)
    × ((kind a c ≢ Directory) ⊎ CutsFrom a c path))

-- the same from a header of any kind
abbrev pub CutsAt : List ℕ → ℕ → Path → Type 0
CutsAt a h path = (kind a h ≢ Directory) ⊎ CutsFrom a h path

-- the entry of the header h in a layer
pub record IsEntryIn (a : List ℕ) (layer h : ℕ) (entry : Entry) : Type 0 where
  pub number : entry.place.layer ≡ layer
  pub final : IsFinal a h entry.place.header
  pub is_read : IsReadIn a entry

-- the branch has the entries of all plain paths from the header h
pub record IsBranchOf (a : List ℕ) (layer h : ℕ) (b : Subtree Entry) : Type 0 where
  pub rising : IsRising b
  pub shown : (path : Path) (g : ℕ) → IsPlain path → Leads a h path g
      → IsSomeAnd (at_path (whole b) path) (λ entry. IsEntryIn a layer g entry)
  pub only : (path : Path) (entry : Entry) → at_path (whole b) path ≡ Some entry
      → IsPlain path × ((g : ℕ) × Leads a h path g × IsEntryIn a layer g entry)

-- marks and entries remove what the layer cuts from the header h
abbrev pub RemovesFrom : List ℕ → ℕ → (Path → Option Mark) → Subtree Entry → Type 0
RemovesFrom a h marks e = (path : Path) → IsPlain path
    → IsTrue (removed_by marks (at_path (whole e)) path) ↔ CutsAt a h path

-- the branch of the header h with the name n, which needs no mark
pub record IsBranchAlone (a : List ℕ) (layer h : ℕ) (n : List ℕ) (e : Subtree Entry) : Type 0 where
  pub name : e.name ≡ n
  pub entries : IsBranchOf a layer h e
  pub exact : RemovesFrom a h (λ q. None) e

-- the branch of the header h and its mark, with the name n
pub record AreBranchesOf (a : List ℕ) (layer h : ℕ) (n : List ℕ) (e : Subtree Entry)
    (k : Subtree Mark) : Type 0 where
  pub entry_name : e.name ≡ n
  pub mark_name : k.name ≡ n
  pub entries : IsBranchOf a layer h e
  pub rising : IsRising k
  pub exact : RemovesFrom a h (at_path (whole k)) e

-- both are made from the header h under the name n
abbrev pub AreMadeOf : List ℕ → ℕ → ℕ → List ℕ → (Subtree Entry × Subtree Mark) → Type 0
AreMadeOf a layer h n made = AreBranchesOf a layer h n made.0 made.1

-- the same, with a mark if one is needed
abbrev pub IsMadeOf : List ℕ → ℕ → ℕ → List ℕ → (Subtree Entry × Option (Subtree Mark)) → Type 0
IsMadeOf a layer h n made =
    MatchOption made.1 (IsBranchAlone a layer h n made.0) (λ k. AreBranchesOf a layer h n made.0 k)

-- what is made from the header h under the name n is added to the end of branches of entries and of
-- marks
pub record AddsMade {A : Type 0} (a : List ℕ) (layer h : ℕ) (n : List ℕ)
    (old new : Branches A) : Type 0 where
  pub made : Subtree Entry × Option (Subtree Mark)
  pub is : IsMadeOf a layer h n made
  pub entries : new.entries.items ≡ old.entries.items ++ made.0 ∷ []
  pub marks : new.marks.items ≡ old.marks.items ++ option_to_list made.1

-- the mark cuts nothing, and has nothing below
pub record IsBlank (k : Subtree Mark) : Type 0 where
  pub uncut : k.value.cut ≡ false
  pub clear : k.value.opaque ≡ false
  pub nothing : k.below ≡ []

-- members that are not markers have become branches of entries, and of marks if they need one
pub data AreBuilt (a : List ℕ) (layer : ℕ) : List NamedMember → List (Subtree Entry)
    → List (Subtree Mark) → Type 0 where
  none_built : AreBuilt a layer [] [] []
  hidden : (m : NamedMember) (ms : List NamedMember) (es : List (Subtree Entry))
      (ks : List (Subtree Mark))
      → IsMarker m.name → AreBuilt a layer ms es ks → AreBuilt a layer (m ∷ ms) es ks
  alone : (m : NamedMember) (ms : List NamedMember) (e : Subtree Entry) (es : List (Subtree Entry))
      (ks : List (Subtree Mark))
      → ¬ IsMarker m.name → IsBranchAlone a layer m.head.offset m.name e
      → AreBuilt a layer ms es ks
      → AreBuilt a layer (m ∷ ms) (e ∷ es) ks
  built : (m : NamedMember) (ms : List NamedMember) (e : Subtree Entry) (es : List (Subtree Entry))
      (k : Subtree Mark) (ks : List (Subtree Mark))
      → ¬ IsMarker m.name → AreBranchesOf a layer m.head.offset m.name e k
      → AreBuilt a layer ms es ks
      → AreBuilt a layer (m ∷ ms) (e ∷ es) (k ∷ ks)

-- markers have become cut marks of the parts of their names after .wh.
pub data AreWhiteouts : List NamedMember → List (Subtree Mark) → Type 0 where
  none_white : AreWhiteouts [] []
  other : (m : NamedMember) (ms : List NamedMember) (ks : List (Subtree Mark))
      → ¬ IsMarker m.name → AreWhiteouts ms ks → AreWhiteouts (m ∷ ms) ks
  white : (m : NamedMember) (ms : List NamedMember) (k : Subtree Mark) (ks : List (Subtree Mark))
      → m.name ≡ marker ++ k.name → k.value.cut ≡ true → k.below ≡ [] → AreWhiteouts ms ks
      → AreWhiteouts (m ∷ ms) (k ∷ ks)

-- members of a directory, and how many names may still follow below a path to it
abbrev pub AreMembersAt : List ℕ → ℕ → List NamedMember → Type 0
AreMembersAt a left ms = (d : ℕ) × AllByRecursion (IsNamedMember a d) ms × IsAtDepth a d left

-- a directory whose members have become branches: a sound image gives its header, and these are the
-- members in the order of their names
pub record IsFolder (a : List ℕ) (layer : ℕ) (head : Head) (ms : List KeyedMember)
    (es : List (Subtree Entry)) (ks : List (Subtree Mark)) : Type 0 where
  pub sound : IsImage a
  pub given : IsGiven a head
  pub directory : head.kind ≡ Directory
  pub members : AreSorted a head.offset ms
  pub below : AreBuilt a layer (members_in a ms) es ks
