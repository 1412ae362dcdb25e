-- What the readers of an image give: headers, the members of a directory, names and data.
use Rattle.std.specs.Prelude.{◌≡◌, ◌≢◌, ℕ, ◌+◌, ◌^◌, ◌<◌, ◌≤◌, ◌%◌, ◌==◌, ◌||◌, ◌&&◌, ◌⊎◌, ◌↔◌, List, [], length, take, drop, map, slice_get, Bool, false, not, Option, MatchOption, Some, All, Contains}
use Rattle.std.specs.Option.{option_map_or}
use Rattle.std.specs.List.{filter}
use Rattle.romfs_format.specs.declared.head.Kind.{Kind}
use Rattle.romfs_format.specs.declared.head.Kind.TheVariants.{Regular, SymLink}
use Rattle.romfs_format.specs.declared.head.Head.{Head}
use Rattle.romfs_format.specs.Fields.{root, kind, size, name, data_at, is_dot_name}
use Rattle.romfs_format.specs.Chains.{IsAt, IsMember, IsSomeMember}
use Rattle.romfs_format.specs.Links.{IsFinal}
use Rattle.romfs_format.specs.Rules.{IsNamed}
use Rattle.romfs_format.specs.Heads.{name_of, head_of}
use Rattle.romfs_reader.specs.declared.parts.Part.{Part}

-- there is a header with an ended name at h
abbrev pub IsPlace : List ℕ → ℕ → Type 0
IsPlace a h = (h % 16 ≡ 0) × IsNamed a h

-- the header at h; none if there is no header with an ended name
abbrev pub IsHeadAt : List ℕ → ℕ → Option Head → Type 0
IsHeadAt a h found = MatchOption found (¬ IsPlace a h) (λ head. IsPlace a h × (head ≡ head_of a h))

-- the end of a chain of hard links from a member
abbrev pub IsEnd : List ℕ → ℕ → Type 0
IsEnd a e = (h : ℕ) × IsSomeMember a h × IsFinal a h e

-- the image gives this header: as the root, as a member, or as the end of a member's hard links
pub record IsGiven (a : List ℕ) (head : Head) : Type 0 where
  pub is : head ≡ head_of a head.offset
  pub from : (head.offset ≡ root a) ⊎ IsSomeMember a head.offset ⊎ IsEnd a head.offset

-- n bytes from p on
unfoldable pub bytes_at : List ℕ → ℕ → ℕ → List ℕ
bytes_at a p n = take n (drop p a)

-- the data of a regular file or the target of a link; headers of other kinds have none
abbrev pub data_of_kind : Kind → List ℕ → ℕ → List ℕ
data_of_kind Regular a h = bytes_at a (data_at h (name_of a h)) (size a h)
data_of_kind SymLink a h = bytes_at a (data_at h (name_of a h)) (size a h)
data_of_kind _ a h = []

-- the data of the header h, by its kind
abbrev pub data_of_header : List ℕ → ℕ → List ℕ
data_of_header a h = data_of_kind (kind a h) a h

-- how many bytes of data a header with this size has
abbrev pub data_size : Kind → ℕ → ℕ
data_size Regular n = n
data_size SymLink n = n
data_size _ n = 0

-- the part lies in the image, and a reply's header can say its length
pub record IsPart (a : List ℕ) (part : Part) : Type 0 where
  pub within : part.start + part.len ≤ length a
  pub short : 16 + part.len < 2 ^ 32

-- the start of the data of the header h, if it has any: after its padded name
abbrev pub data_start_of : List ℕ → ℕ → ℕ
data_start_of a h = option_map_or (data_at h) (name a h) 0

-- the part is the data of the header h
pub record IsDataPart (a : List ℕ) (h : ℕ) (part : Part) : Type 0 where
  pub lies : IsPart a part
  pub bytes : bytes_at a part.start part.len ≡ data_of_header a h
  pub size_is : part.len ≡ data_size (kind a h) (size a h)
  pub start_is : part.len ≢ 0 → part.start ≡ data_start_of a h

-- hs are the headers of the chain of the directory d, position by position
pub record IsListed (a : List ℕ) (d : ℕ) (hs : List ℕ) : Type 0 where
  pub each : (n h : ℕ) → (slice_get hs n ≡ Some h) ↔ IsAt a d n h

-- whether a header is passed over in the chain of d
abbrev pub passes_over : List ℕ → ℕ → ℕ → Bool
passes_over a d h =
    ((d == root a) && (h == root a)) || option_map_or is_dot_name (name a h) false

-- those of the headers hs that are not passed over in the chain of d
abbrev pub kept : List ℕ → ℕ → List ℕ → List Head
kept a d hs = map (head_of a) (filter (λ h. not (passes_over a d h)) hs)

-- heads are the members of the directory d, in the order of its chain
pub record AreMembers (a : List ℕ) (d : ℕ) (heads : List Head) : Type 0 where
  pub listed : (hs : List ℕ) × IsListed a d hs × (heads ≡ kept a d hs)
  pub members : All (λ head. IsMember a d head.offset) heads
  pub whole : (h : ℕ) → IsMember a d h → Contains heads (head_of a h)
