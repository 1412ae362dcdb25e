-- xattr(7), linux/limits.h and linux/capability.h: extended attributes, and a file's list of them.
use Rattle.std.specs.Prelude.{ℕ, ◌%◌, ◌==◌, ◌&&◌, ◌||◌, Bool, true, List, [], ◌∷◌, ◌++◌, length, Option, Some, None, nat_eq, nat_le, not, codes, bytes_eq, if◌then◌else◌}
use Rattle.std.specs.List.{starts_with, list_all}
use Rattle.std.specs.Option.{is_none, option_map_or}
use Rattle.std.specs.Ordering.{nat_cmp, is_lt}
use Rattle.std.specs.Cmp.Lexicographic.{slice_cmp}
use Rattle.romfs_format.specs.declared.limits.TheConstants.{MAX_XATTR_NAME_SIZE, MAX_XATTR_SIZE, MAX_XATTR_LIST_SIZE}
use Rattle.romfs_format.specs.Fields.{ended}
use Rattle.romfs_format.specs.Acls.{is_acl, acl_mode}

-- an extended attribute of a file, as bytes
pub record Extended : Type 0 where
  pub name : List ℕ
  pub value : List ℕ

-- the names with a meaning of their own: access control lists, and capabilities
unfoldable pub access_name : List ℕ
access_name = codes "system.posix_acl_access"

unfoldable pub default_name : List ℕ
default_name = codes "system.posix_acl_default"

unfoldable pub capability_name : List ℕ
capability_name = codes "security.capability"

-- the name is that of an access control list
abbrev pub is_acl_name : List ℕ → Bool
is_acl_name name = bytes_eq name access_name || bytes_eq name default_name

-- the name is one that an overlay takes for its own notes: it could hide files
unfoldable pub is_overlay_name : List ℕ → Bool
is_overlay_name name =
    starts_with nat_eq name (codes "trusted.overlay.")
    || starts_with nat_eq name (codes "user.overlay.")

-- the name is no longer than Linux allows, not empty, without a zero byte, and no overlay's
abbrev pub is_xattr_name : List ℕ → Bool
is_xattr_name name =
    nat_le 1 (length name) && nat_le (length name) MAX_XATTR_NAME_SIZE && is_none (ended name)
    && not (is_overlay_name name)

-- the value begins with this revision of capabilities, which take effect at once or not
abbrev pub has_revision : List ℕ → ℕ → Bool
has_revision value revision =
    starts_with nat_eq value (0 ∷ 0 ∷ 0 ∷ revision ∷ [])
    || starts_with nat_eq value (1 ∷ 0 ∷ 0 ∷ revision ∷ [])

-- the value is that of a file's capabilities: of revision 2, or of revision 3 with a namespace
unfoldable pub is_capability : List ℕ → Bool
is_capability value =
    ((length value == 20) && has_revision value 2)
    || ((length value == 24) && has_revision value 3)

-- a file may have this attribute
abbrev pub is_extended : Extended → Bool
is_extended x =
    is_xattr_name x.name && nat_le (length x.value) MAX_XATTR_SIZE
    && (if is_acl_name x.name then is_acl x.value
    else not (bytes_eq x.name capability_name) || is_capability x.value)

-- each name comes before the next, by bytes
abbrev pub names_rise : List Extended → Bool
names_rise [] = true
names_rise (x ∷ []) = true
names_rise (x ∷ y ∷ xs) = is_lt (slice_cmp nat_cmp x.name y.name) && names_rise (y ∷ xs)

-- the names of a list one after the other, each with a zero byte
abbrev pub names_of : List Extended → List ℕ
names_of [] = []
names_of (x ∷ xs) = x.name ++ 0 ∷ names_of xs

-- the list is one that a file may have
abbrev pub is_list : List Extended → Bool
is_list xs =
    list_all is_extended xs && names_rise xs && nat_le (length (names_of xs)) MAX_XATTR_LIST_SIZE

-- the value of the attribute with this name
abbrev pub value_of : List ℕ → List Extended → Option (List ℕ)
value_of name [] = None
value_of name (x ∷ xs) = if bytes_eq x.name name then Some x.value else value_of name xs

-- the access control list, if there is one, says what the mode says
abbrev pub agrees : ℕ → List Extended → Bool
agrees mode xs = option_map_or (λ acl. mode % 512 == acl_mode acl) (value_of access_name xs) true
