-- linux/posix_acl_xattr.h and acl(5): an access control list as the value of an extended attribute,
-- when it is a valid one, and the mode that it agrees with.
use Rattle.std.specs.Prelude.{ℕ, zero, suc, ◌+◌, ◌-◌, ◌*◌, ◌/◌, ◌%◌, ◌^◌, ◌==◌, ◌&&◌, ◌||◌, Bool, true, List, length, drop, Option, Some, None, nat_le, nat_lt, not, if◌then◌else◌}
use Rattle.std.specs.Option.{is_some, option_or, unwrap_or}
use Rattle.byteorder.specs.Endian.{little_number}
use Rattle.romfs_format.specs.declared.limits.TheConstants.{MAX_ACL_SIZE}
use Rattle.romfs_format.specs.declared.acl.TheConstants.{VERSION, USER_OBJ, USER, GROUP_OBJ, GROUP, MASK, OTHER, UNDEFINED_ID}
use Rattle.romfs_format.specs.Below.{holds_below}

-- v is a value: a version, and entries of eight bytes each. Numbers are little-endian.

-- the number in the n bytes at p
unfoldable pub little_at : ℕ → List ℕ → ℕ → ℕ
little_at n v p = little_number n (drop p v)

-- how many entries it has
abbrev pub acl_count : List ℕ → ℕ
acl_count v = (length v - 4) / 8

-- what entry i is for
abbrev pub acl_tag : List ℕ → ℕ → ℕ
acl_tag v i = little_at 2 v (8 * i + 4)

-- what it permits: to read 4, to write 2, to execute 1
abbrev pub acl_bits : List ℕ → ℕ → ℕ
acl_bits v i = little_at 2 v (8 * i + 6)

-- the user or group that it names
abbrev pub acl_id : List ℕ → ℕ → ℕ
acl_id v i = little_at 4 v (8 * i + 8)

-- an entry with this tag names a user or a group
abbrev pub names_one : ℕ → Bool
names_one tag = (tag == USER) || (tag == GROUP)

-- one with this tag names no user or group
abbrev pub names_nobody : ℕ → Bool
names_nobody tag = (tag == USER_OBJ) || (tag == GROUP_OBJ) || (tag == MASK) || (tag == OTHER)

-- entries are in the order of their tags, and those with one tag in the order of their ids
abbrev pub acl_key : List ℕ → ℕ → ℕ
acl_key v i = acl_tag v i * 2 ^ 32 + acl_id v i

-- entry i comes after the one before it, if there is one
abbrev pub follows : List ℕ → ℕ → Bool
follows v zero = true
follows v (suc i) = nat_lt (acl_key v i) (acl_key v (suc i))

-- entry i is right
abbrev pub is_acl_entry : List ℕ → ℕ → Bool
is_acl_entry v i =
    nat_le (acl_bits v i) 7
    && (if names_one (acl_tag v i) then nat_lt (acl_id v i) UNDEFINED_ID
    else names_nobody (acl_tag v i) && (acl_id v i == UNDEFINED_ID))
    && follows v i

-- what is permitted by an entry with this tag among the first n
abbrev pub bits_among : ℕ → List ℕ → ℕ → Option ℕ
bits_among tag v zero = None
bits_among tag v (suc n) =
    if acl_tag v n == tag then Some (acl_bits v n) else bits_among tag v n

-- the same among all
abbrev pub bits_of : ℕ → List ℕ → Option ℕ
bits_of tag v = bits_among tag v (acl_count v)

-- there is such an entry
abbrev pub has_tag : ℕ → List ℕ → Bool
has_tag tag v = is_some (bits_of tag v)

-- the owner, the group and all others have an entry, and the mask has if anyone is named
abbrev pub has_tags : List ℕ → Bool
has_tags v =
    has_tag USER_OBJ v && has_tag GROUP_OBJ v && has_tag OTHER v
    && (has_tag MASK v || not (has_tag USER v || has_tag GROUP v))

-- the value is an access control list
abbrev pub is_acl : List ℕ → Bool
is_acl v =
    nat_le (length v) MAX_ACL_SIZE && (length v % 8 == 4) && (little_at 4 v 0 == VERSION)
    && holds_below (acl_count v) (is_acl_entry v) && has_tags v

-- the permissions in the mode of its file: of the owner, of the mask or without one of the group,
-- and of all others
abbrev pub acl_mode : List ℕ → ℕ
acl_mode v =
    unwrap_or (bits_of USER_OBJ v) 0 * 64
    + unwrap_or (option_or (bits_of MASK v) (bits_of GROUP_OBJ v)) 0 * 8
    + unwrap_or (bits_of OTHER v) 0
