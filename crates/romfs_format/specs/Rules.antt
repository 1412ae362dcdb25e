-- The rules of an image, each with the place that it is named at, and the one fault of an image
-- that breaks some.
use Rattle.std.specs.Prelude.{Option, MatchOption, ◌≡◌, ◌≢◌, ℕ, ◌+◌, ◌/◌, ◌%◌, ◌^◌, ◌<◌, ◌⊎◌, List, [], ◌++◌, length, nat_lt, if◌then◌else◌, IsSome, IsSomeAnd, IsNone, IsTrue, Contains, codes}
use Rattle.romfs_format.specs.declared.head.Kind.TheVariants.{Directory, Regular, SymLink, Block, Character}
use Rattle.romfs_format.specs.declared.head.End.TheVariants.{AtDirectory, Nowhere}
use Rattle.romfs_format.specs.declared.limits.TheConstants.{HEAD_SIZE, MAX_TARGET_SIZE, MAX_MAJOR, MAX_NAMES}
use Rattle.romfs_format.specs.declared.rule.Rule.{Rule}
use Rattle.romfs_format.specs.declared.rule.ImageFault.{ImageFault}
use Rattle.romfs_format.specs.declared.rule.Profile.{Profile}
use Rattle.romfs_format.specs.declared.rule.Profile.TheVariants.{Usual}
use Rattle.romfs_format.specs.declared.rule.Rule.TheVariants.{Short, Magic, FullSize, BadSum, VolumeName, NoRoot, Outside, NameOpen, NameBad, DataOutside, TargetLong, LinkedTwice, SameName, LinkLoop, LinkDirectory, MajorLarge, HeaderSum, TooDeep, Attributes}
use Rattle.romfs_format.specs.Profiles.{asks_sums, reads_attributes}
use Rattle.romfs_format.specs.Trailer.{trailer_at, IsTrailerBroken}
use Rattle.romfs_format.specs.Fields.{word, image, summed, text_at, word_sum, root, IsInside, kind, spec, size, name, data_at, header_bytes}
use Rattle.romfs_format.specs.Chains.{Stands, IsMember, IsSomeMember, Has}
use Rattle.romfs_format.specs.Links.{Field, IsLink, IsHardLink, EndsAs, IsTarget, IsReached}

-- b begins with these bytes
abbrev pub StartsWith : List ℕ → List ℕ → Type 0
StartsWith b xs = (rest : List ℕ) × (b ≡ xs ++ rest)

-- what every image begins with
abbrev pub magic : List ℕ
magic = codes "-rom1fs-"

-- the header has a name that is ended
abbrev pub IsNamed : List ℕ → ℕ → Type 0
IsNamed a h = IsInside a h × IsSome (name a h)

-- the headers whose contents have rules: members and what their hard links lead over, inside the
-- image
abbrev pub IsUsed : List ℕ → ℕ → Type 0
IsUsed a h = IsInside a h × (IsSomeMember a h ⊎ IsTarget a h)

-- the header is of a kind that has data: a regular file or a symbolic link
abbrev pub HasData : List ℕ → ℕ → Type 0
HasData a h = (kind a h ≡ Regular) ⊎ (kind a h ≡ SymLink)

-- the header is that of a device
abbrev pub IsDevice : List ℕ → ℕ → Type 0
IsDevice a h = (kind a h ≡ Block) ⊎ (kind a h ≡ Character)

-- the name of a member that is bad: empty, or one that holds /
abbrev pub IsBadName : List ℕ → Type 0
IsBadName n = (n ≡ []) ⊎ Contains n 47

-- the data of the header with this name end beyond the image
abbrev pub EndsOutside : List ℕ → ℕ → List ℕ → Type 0
EndsOutside a h n = length a < data_at h n + size a h

-- the symbolic link's target is too long
abbrev pub HasLongTarget : List ℕ → ℕ → Type 0
HasLongTarget a h = (kind a h ≡ SymLink) × (MAX_TARGET_SIZE < size a h)

-- the device's major number is too large: the high 16 bits of spec.info
abbrev pub HasLargeMajor : List ℕ → ℕ → Type 0
HasLargeMajor a h = IsDevice a h × (MAX_MAJOR < spec a h / 2 ^ 16)

-- two fields name h
abbrev pub IsLinkedTwice : List ℕ → ℕ → Type 0
IsLinkedTwice a h = (f g : Field) × (f ≢ g) × IsLink a f h × IsLink a g h

-- h is the root's header, in the chain of a directory other than the root
abbrev pub IsRootElsewhere : List ℕ → ℕ → Type 0
IsRootElsewhere a h = (h ≡ root a) × ((d : ℕ) × (d ≢ root a) × Stands a d h)

-- g is a member of the same directory as h, at a lower place, and has its name
abbrev pub IsNamesake : List ℕ → ℕ → ℕ → Type 0
IsNamesake a g h =
    (g < h) × ((d : ℕ) × IsMember a d g × IsMember a d h) × IsNamed a g × IsNamed a h
    × (name a g ≡ name a h)

-- the words of the header at h, of its name and of the padding do not sum to 0; a header whose name
-- is not ended has no sum, which is a fault only for the root's
abbrev pub HasBadSum : List ℕ → ℕ → Type 0
HasBadSum a h =
    MatchOption (name a h) (h ≡ root a) (λ n. word_sum (header_bytes a h n) % 2 ^ 32 ≢ 0)

-- the image with the accessible bytes a breaks the rule of the profile at the header h
abbrev pub BreaksHeader : Profile → List ℕ → Rule → ℕ → Type 0
BreaksHeader profile a Outside h = IsReached a h × ¬ IsInside a h
BreaksHeader profile a NameOpen h =
    IsReached a h × IsInside a h × (h ≢ root a) × IsNone (name a h)
BreaksHeader profile a NameBad h =
    IsSomeMember a h × IsInside a h × IsSomeAnd (name a h) IsBadName
BreaksHeader profile a DataOutside h =
    IsUsed a h × HasData a h × IsSomeAnd (name a h) (EndsOutside a h)
BreaksHeader profile a TargetLong h = IsUsed a h × HasLongTarget a h
BreaksHeader profile a LinkedTwice h = IsLinkedTwice a h ⊎ IsRootElsewhere a h
BreaksHeader profile a SameName h = (g : ℕ) × IsNamesake a g h
BreaksHeader profile a LinkLoop h = IsSomeMember a h × IsHardLink a h × EndsAs a h Nowhere
BreaksHeader profile a LinkDirectory h =
    IsSomeMember a h × IsHardLink a h × EndsAs a h AtDirectory
BreaksHeader profile a MajorLarge h = IsUsed a h × HasLargeMajor a h
BreaksHeader profile a HeaderSum h =
    IsTrue (asks_sums profile) × IsReached a h × IsInside a h × HasBadSum a h
BreaksHeader profile a TooDeep h =
    (path : List (List ℕ)) × Has a path h × (MAX_NAMES < length path)
BreaksHeader profile a _ h = ⊥

-- no header fits at the root's place, or it is not a directory's
abbrev pub HasNoRoot : List ℕ → Type 0
HasNoRoot a = (length a < root a + HEAD_SIZE) ⊎ (kind a (root a) ≢ Directory)

-- the bytes b break the rule of the profile at the place p
abbrev pub Breaks : Profile → List ℕ → Rule → ℕ → Type 0
Breaks profile b Short p = (length b < HEAD_SIZE) × (p ≡ 0)
Breaks profile b Magic p = (¬ StartsWith b magic) × (p ≡ 0)
Breaks profile b FullSize p = ((length b < word b 8) ⊎ (word b 8 < HEAD_SIZE)) × (p ≡ 8)
Breaks profile b BadSum p = (word_sum (summed (image b)) % 2 ^ 32 ≢ 0) × (p ≡ 12)
Breaks profile b VolumeName p = IsNone (text_at (image b) HEAD_SIZE) × (p ≡ HEAD_SIZE)
Breaks profile b NoRoot p = HasNoRoot (image b) × (p ≡ root (image b))
Breaks profile b Attributes p =
    IsTrue (reads_attributes profile) × IsTrailerBroken b × (p ≡ trailer_at b)
Breaks profile b r p = BreaksHeader profile (image b) r p

-- the rules in order
abbrev pub rule_number : Rule → ℕ
rule_number Short = 0
rule_number Magic = 1
rule_number FullSize = 2
rule_number BadSum = 3
rule_number VolumeName = 4
rule_number NoRoot = 5
rule_number Outside = 6
rule_number NameOpen = 7
rule_number NameBad = 8
rule_number DataOutside = 9
rule_number TargetLong = 10
rule_number LinkedTwice = 11
rule_number SameName = 12
rule_number LinkLoop = 13
rule_number LinkDirectory = 14
rule_number MajorLarge = 15
rule_number HeaderSum = 16
rule_number TooDeep = 17
rule_number Attributes = 18

-- the rules of the volume header one by one, then all rules of file headers together, then the
-- depth, and then the attributes
abbrev pub stage : Rule → ℕ
stage r =
    if nat_lt (rule_number r) 6 then rule_number r
    else (if nat_lt (rule_number r) 17 then 6 else rule_number r)

-- breaking r at p is named before breaking s at q: by stage, then by place, then by number
abbrev pub IsNamedBefore : Rule → ℕ → Rule → ℕ → Type 0
IsNamedBefore r p s q =
    (stage r < stage s) ⊎ ((stage r ≡ stage s)
    × ((p < q) ⊎ ((p ≡ q) × (rule_number r < rule_number s))))

-- the image breaks r at p, and nothing that is named before it, under the profile
pub record IsFault (profile : Profile) (b : List ℕ) (r : Rule) (p : ℕ) : Type 0 where
  pub broken : Breaks profile b r p
  pub first : (s : Rule) (q : ℕ) → Breaks profile b s q → ¬ IsNamedBefore s q r p

-- no rule of the volume header is broken: these are the first six, and every profile has them
pub record IsVolume (b : List ℕ) : Type 0 where
  pub keeps : (r : Rule) (p : ℕ) → rule_number r < 6 → ¬ Breaks Usual b r p

-- no rule of the profile is broken
pub record IsSound (profile : Profile) (b : List ℕ) : Type 0 where
  pub keeps : (r : Rule) (p : ℕ) → ¬ Breaks profile b r p

-- the fault of b under the profile; none if it is sound
abbrev pub IsFaultOf : Profile → List ℕ → Option ImageFault → Type 0
IsFaultOf profile b fault =
    MatchOption fault (IsSound profile b) (λ f. IsFault profile b f.rule f.place)
