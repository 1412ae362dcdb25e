-- Worked examples: access control lists and capabilities as setfacl(1) and setcap(8) made them,
-- names, lists, and why others are refused.
use Rattle.std.specs.Prelude.{◌≡◌, ℕ, false, true, List, [], ◌∷◌, ◌++◌, take, drop, replicate, codes, Some, None}
use Rattle.byteorder.specs.Endian.{little_bytes}
use Rattle.romfs_format.specs.Acls.{is_acl, acl_mode}
use Rattle.romfs_format.specs.Extended.{Extended, is_xattr_name, is_capability, is_extended, is_list, names_of, value_of, agrees}

-- an entry of an access control list
abbrev pub entry : ℕ → ℕ → ℕ → List ℕ
entry tag bits id = little_bytes 2 tag ++ little_bytes 2 bits ++ little_bytes 4 id

-- a list of version 2 that begins with the owner's entry: rw-
abbrev pub acl : List ℕ → List ℕ
acl entries = 2 ∷ 0 ∷ 0 ∷ 0 ∷ entry 1 6 0xffffffff ++ entries

-- user::rw-, user:1234:r--, group::---, mask::r--, other::---
abbrev pub named_acl : List ℕ
named_acl =
    2 ∷ 0 ∷ 0 ∷ 0
    ∷ 1 ∷ 0 ∷ 6 ∷ 0 ∷ 255 ∷ 255 ∷ 255 ∷ 255
    ∷ 2 ∷ 0 ∷ 4 ∷ 0 ∷ 0xd2 ∷ 4 ∷ 0 ∷ 0
    ∷ 4 ∷ 0 ∷ 0 ∷ 0 ∷ 255 ∷ 255 ∷ 255 ∷ 255
    ∷ 16 ∷ 0 ∷ 4 ∷ 0 ∷ 255 ∷ 255 ∷ 255 ∷ 255
    ∷ 32 ∷ 0 ∷ 0 ∷ 0 ∷ 255 ∷ 255 ∷ 255 ∷ 255 ∷ []

-- the entries after the owner's: of the group with these bits, and of all others
abbrev pub group_and_others : ℕ → List ℕ
group_and_others bits = entry 4 bits 0xffffffff ++ entry 32 0 0xffffffff

-- the group's entry, a mask of these bits, and all others'
abbrev pub masked : ℕ → List ℕ
masked bits = entry 4 5 0xffffffff ++ entry 16 bits 0xffffffff ++ entry 32 1 0xffffffff

-- values that are access control lists, and what mode they agree with
pub record AclExamples : Type 0 where
  pub as_set : is_acl named_acl ≡ true
  pub three : is_acl (acl (group_and_others 4)) ≡ true
  pub with_mask : is_acl (acl (masked 3)) ≡ true
  pub named_by_mask : acl_mode named_acl ≡ 0x1a0
  pub by_group : acl_mode (acl (group_and_others 4)) ≡ 0x1a0
  pub by_mask : acl_mode (acl (masked 3)) ≡ 0x199
  pub two_users : is_acl (acl (entry 2 4 1 ++ entry 2 4 2 ++ masked 3)) ≡ true

-- values that are none
pub record BrokenAclExamples : Type 0 where
  pub nothing : is_acl [] ≡ false
  pub version_alone : is_acl (2 ∷ 0 ∷ 0 ∷ 0 ∷ []) ≡ false
  pub cut_off : is_acl (take 43 named_acl) ≡ false
  pub longer : is_acl (named_acl ++ 0 ∷ []) ≡ false
  pub other_version : is_acl (3 ∷ drop 1 named_acl) ≡ false
  pub no_owner : is_acl (2 ∷ 0 ∷ 0 ∷ 0 ∷ group_and_others 4) ≡ false
  pub no_group : is_acl (acl (entry 16 7 0xffffffff ++ entry 32 0 0xffffffff)) ≡ false
  pub no_others : is_acl (acl (entry 4 4 0xffffffff)) ≡ false
  pub user_without_mask : is_acl (acl (entry 2 4 1 ++ group_and_others 4)) ≡ false
  pub group_without_mask :
      is_acl (acl (entry 4 4 0xffffffff ++ entry 8 4 1 ++ entry 32 0 0xffffffff)) ≡ false
  pub twice : is_acl (acl (entry 2 4 1 ++ entry 2 4 1 ++ masked 3)) ≡ false
  pub falling : is_acl (acl (entry 2 4 2 ++ entry 2 4 1 ++ masked 3)) ≡ false
  pub large_bits : is_acl (acl (group_and_others 8)) ≡ false
  pub other_tag : is_acl (acl (entry 3 4 1 ++ masked 3)) ≡ false
  pub nobody_named : is_acl (acl (entry 2 4 0xffffffff ++ masked 3)) ≡ false
  pub group_named : is_acl (acl (entry 4 4 1 ++ entry 32 0 0xffffffff)) ≡ false

-- cap_net_raw=ep
abbrev pub net_raw : List ℕ
net_raw = 1 ∷ 0 ∷ 0 ∷ 2 ∷ 0 ∷ 0x20 ∷ replicate 14 0

-- which values are capabilities
pub record CapabilityExamples : Type 0 where
  pub as_set : is_capability net_raw ≡ true
  pub not_at_once : is_capability (0 ∷ drop 1 net_raw) ≡ true
  pub of_a_namespace : is_capability (1 ∷ 0 ∷ 0 ∷ 3 ∷ replicate 20 0) ≡ true
  pub short : is_capability (take 19 net_raw) ≡ false
  pub long : is_capability (net_raw ++ 0 ∷ []) ≡ false
  pub three_in_twenty : is_capability (1 ∷ 0 ∷ 0 ∷ 3 ∷ replicate 16 0) ≡ false
  pub two_in_more : is_capability (1 ∷ 0 ∷ 0 ∷ 2 ∷ replicate 20 0) ≡ false
  pub other_flag : is_capability (2 ∷ drop 1 net_raw) ≡ false
  pub nothing : is_capability [] ≡ false

-- an attribute with this name and no value
abbrev pub named : List ℕ → Extended
named name = record { name = name; value = [] }

-- which names a file may have
pub record XattrNameExamples : Type 0 where
  pub one : is_xattr_name (1 ∷ []) ≡ true
  pub longest : is_xattr_name (replicate 255 97) ≡ true
  pub empty : is_xattr_name [] ≡ false
  pub too_long : is_xattr_name (replicate 256 97) ≡ false
  pub zero : is_xattr_name (codes "user.a" ++ 0 ∷ []) ≡ false
  pub overlay : is_xattr_name (codes "trusted.overlay.opaque") ≡ false
  pub user_overlay : is_xattr_name (codes "user.overlay.whiteout") ≡ false
  pub no_overlay : is_xattr_name (codes "user.overlay") ≡ true
  pub behind : is_xattr_name (codes "user.trusted.overlay.a") ≡ true

-- user.a with the value b, and user.ab without one
abbrev pub two_users : List Extended
two_users = record { name = codes "user.a"; value = codes "b" } ∷ named (codes "user.ab") ∷ []

-- which lists a file may have, what is found in them, and what agrees with a mode
pub record ListExamples : Type 0 where
  pub none : is_list [] ≡ true
  pub rising : is_list two_users ≡ true
  pub same : is_list (named (codes "user.a") ∷ named (codes "user.a") ∷ []) ≡ false
  pub falling : is_list (named (codes "user.ab") ∷ named (codes "user.a") ∷ []) ≡ false
  pub bad_first : is_list (named [] ∷ named (codes "user.a") ∷ []) ≡ false
  pub bad_last : is_list (named (codes "user.a") ∷ named (codes "user.overlay.a") ∷ []) ≡ false
  pub bad_acl : is_extended (named (codes "system.posix_acl_default")) ≡ false
  pub bad_capability : is_extended (named (codes "security.capability")) ≡ false
  pub names : names_of two_users ≡ codes "user.a" ++ 0 ∷ codes "user.ab" ++ 0 ∷ []
  pub found : value_of (codes "user.a") two_users ≡ Some (codes "b")
  pub found_empty : value_of (codes "user.ab") two_users ≡ Some []
  pub prefix_alone : value_of (codes "user.") two_users ≡ None
  pub longer : value_of (codes "user.abc") two_users ≡ None
  pub no_acl : agrees 0x1ff two_users ≡ true
  pub agreeing : agrees 0xba0
      (record { name = codes "system.posix_acl_access"; value = named_acl } ∷ []) ≡ true
  pub disagreeing : agrees 0x1a4
      (record { name = codes "system.posix_acl_access"; value = named_acl } ∷ []) ≡ false
  pub default_alone : agrees 0
      (record { name = codes "system.posix_acl_default"; value = named_acl } ∷ []) ≡ true
