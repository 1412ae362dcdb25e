-- The members of a directory, and how they are sorted.
use Rattle.std.specs.Prelude.{◌≡◌, ℕ, List, ◌∷◌, ◌++◌, length, map, drop, All}
use Rattle.std.specs.List.Sorted.{IsSorted}
use Rattle.romfs_format.specs.declared.head.Head.{Head}
use Rattle.romfs_format.specs.Heads.{name_of, head_of}
use Rattle.romfs_reader.specs.Readers.{IsGiven}
use Rattle.layer_names.specs.Keys.{key, AreBytes}
use Rattle.layer_paths.specs.Rows.{name_cmp}
use Rattle.layer_tree.specs.declared.members.KeyedMember.{KeyedMember}

-- a member of a directory: its name, and its header
pub record NamedMember : Type 0 where
  pub name : List ℕ
  pub head : Head

-- the member whose header is at a place of the image
abbrev pub member_in : List ℕ → KeyedMember → NamedMember
member_in a m = record { name = name_of a m.offset; head = head_of a m.offset }

-- the members whose headers are at these places
abbrev pub members_in : List ℕ → List KeyedMember → List NamedMember
members_in a ms = map (member_in a) ms

-- the header is one that the image gives, and its name has this length
pub record IsRead (a : List ℕ) (m : KeyedMember) : Type 0 where
  pub given : IsGiven a (head_of a m.offset)
  pub length : m.name_len ≡ length (name_of a m.offset)

-- the name begins with the front
pub record HasFront (front name : List ℕ) : Type 0 where
  pub rest : List ℕ
  pub is : name ≡ front ++ rest

-- the names of these members all begin with the front
abbrev pub HaveFront : List ℕ → List ℕ → List KeyedMember → Type 0
HaveFront a front ms = All (λ m. HasFront front (name_of a m.offset)) ms

-- the names of these members all begin with this many equal bytes
pub record ShareFront (a : List ℕ) (shared : ℕ) (ms : List KeyedMember) : Type 0 where
  pub front : List ℕ
  pub is : shared ≡ length front
  pub each : HaveFront a front ms

-- the name begins with the front, and the key is made from the eight bytes after it
pub record IsKeyed (a front : List ℕ) (m : KeyedMember) : Type 0 where
  pub rest : List ℕ
  pub name : name_of a m.offset ≡ front ++ rest
  pub key : m.key ≡ key 8 rest
  pub bytes : AreBytes rest

-- all names begin with one front, and the keys are made from the bytes after it
pub record AreKeyedBehind (a : List ℕ) (ms : List KeyedMember) : Type 0 where
  pub front : List ℕ
  pub each : All (IsKeyed a front) ms

-- the member, its key made from the eight bytes after the first n of its name
abbrev pub keyed_past : List ℕ → ℕ → KeyedMember → KeyedMember
keyed_past a n m = record {
  key = key 8 (drop n (name_of a m.offset));
  offset = m.offset;
  name_len = m.name_len;
}

-- the key, and then the name
abbrev pub key_and_name : List ℕ → KeyedMember → List ℕ
key_and_name a m = m.key ∷ name_of a m.offset

-- in the order of their names
abbrev pub IsByName : List NamedMember → Type 0
IsByName = IsSorted (λ x y. name_cmp x.name y.name)

-- the members are the same, and their keys are made from the bytes after the common front of all
-- their names
pub record AreToldApart (a : List ℕ) (old new : List KeyedMember) : Type 0 where
  pub read : All (IsRead a) new
  pub keyed : AreKeyedBehind a new
  pub same : members_in a new ≡ members_in a old
