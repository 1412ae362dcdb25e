-- linux/fuse.h, FUSE_GETXATTR and FUSE_LISTXATTR, and xattr(7): the extended attributes of a node
-- that a client gets.
use Rattle.std.specs.Prelude.{ℕ, List, [], filter, length, Bool, not, ◌==◌, ◌&&◌, nat_lt, Option, Some, None, if◌then◌else◌}
use Rattle.std.specs.Option.{option_map_or}
use Rattle.romfs_format.specs.Extended.{Extended, is_acl_name, value_of}
use Rattle.fuse_wire.specs.declared.errno.Errno.{Errno}
use Rattle.fuse_wire.specs.declared.errno.Errno.TheVariants.{ERANGE, ENODATA, EOPNOTSUPP}
use Rattle.fuse_wire.specs.Structures.{getxattr_out}

-- those that a client gets: access control lists only if they are served
abbrev pub xattrs_told : Bool → List Extended → List Extended
xattrs_told acls xs = if acls then xs else filter (λ x. not (is_acl_name x.name)) xs

-- bytes that a size above 0 has no room for
abbrev pub refused_size : ℕ → List ℕ → Option Errno
refused_size size bytes =
    if not (size == 0) && nat_lt size (length bytes) then Some ERANGE else None

-- with the size 0 the number of bytes, otherwise the bytes
abbrev pub sized_answer : ℕ → List ℕ → List ℕ
sized_answer size bytes = if size == 0 then getxattr_out (length bytes) else bytes

-- the refusal of a GETXATTR of this name: access control lists are not served; there is none with
-- this name; or its value is too long
abbrev pub refused_xattr : Bool → ℕ → List ℕ → List Extended → Option Errno
refused_xattr acls size name xs =
    if is_acl_name name && not acls then Some EOPNOTSUPP
    else option_map_or (refused_size size) (value_of name xs) (Some ENODATA)

-- the answer to it
abbrev pub xattr_answer : ℕ → List ℕ → List Extended → List ℕ
xattr_answer size name xs = option_map_or (sized_answer size) (value_of name xs) []
