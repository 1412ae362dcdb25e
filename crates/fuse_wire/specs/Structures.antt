-- linux/fuse.h, the structures of replies, field by field, in their order. Numbers are
-- little-endian, without gaps.
use Rattle.std.specs.Prelude.{ℕ, ◌+◌, ◌-◌, ◌*◌, ◌/◌, ◌%◌, ◌^◌, List, ◌++◌, length, min, replicate, Bool, bit_and, ◌==◌, nat_lt, Option, if◌then◌else◌}
use Rattle.std.specs.Option.{option_map_or}
use Rattle.byteorder.specs.Endian.{little_bytes}
use Rattle.fuse_wire.specs.declared.errno.Errno.{Errno}
use Rattle.fuse_wire.specs.declared.errno.Errno.TheVariants.{ENOENT, EIO, ENOTDIR, EISDIR, EINVAL, EROFS, ERANGE, ENAMETOOLONG, ENOSYS, ENODATA, EPROTO, EOPNOTSUPP, ESTALE}
use Rattle.fuse_wire.specs.declared.limits.TheConstants.{MAX_READAHEAD, MAX_WRITE, MAX_NAME_SIZE}
use Rattle.stack_model.specs.declared.attr.Attr.{Attr}
use Rattle.fuse_wire.specs.declared.reply.Dirent.{Dirent}
use Rattle.fuse_wire.specs.declared.reply.InitOut.{InitOut}
use Rattle.fuse_wire.specs.declared.reply.InitOut.TheVariants.{Version, Terms}

-- a number of 16 bits
unfoldable pub u16 : ℕ → List ℕ
u16 n = little_bytes 2 n

-- a number of 32 bits
unfoldable pub u32 : ℕ → List ℕ
u32 n = little_bytes 4 n

-- a number of 64 bits
unfoldable pub u64 : ℕ → List ℕ
u64 n = little_bytes 8 n

-- this many bytes that are 0
unfoldable pub zeros : ℕ → List ℕ
zeros n = replicate n 0

-- the numbers of errors on Linux (errno(3))
abbrev pub errno_number : Errno → ℕ
errno_number ENOENT = 2
errno_number EIO = 5
errno_number ENOTDIR = 20
errno_number EISDIR = 21
errno_number EINVAL = 22
errno_number EROFS = 30
errno_number ERANGE = 34
errno_number ENAMETOOLONG = 36
errno_number ENOSYS = 38
errno_number ENODATA = 61
errno_number EPROTO = 71
errno_number EOPNOTSUPP = 95
errno_number ESTALE = 116

-- the bit of this place is set in the flags of an INIT
abbrev pub has_bit : ℕ → ℕ → Bool
has_bit place flags = flags / 2 ^ place % 2 == 1

-- the flags have EXPORT_SUPPORT
abbrev pub has_export : ℕ → Bool
has_export flags = has_bit 4 flags

-- the flags have NO_OPEN_SUPPORT
abbrev pub has_no_open : ℕ → Bool
has_no_open flags = has_bit 17 flags

-- the flags have NO_OPENDIR_SUPPORT
abbrev pub has_no_opendir : ℕ → Bool
has_no_opendir flags = has_bit 24 flags

-- the flags have POSIX_ACL
abbrev pub has_acl : ℕ → Bool
has_acl flags = has_bit 20 flags

-- the flags that a session may have: ASYNC_READ (bit 0), EXPORT_SUPPORT (4), DO_READDIRPLUS (13),
-- READDIRPLUS_AUTO (14), PARALLEL_DIROPS (18) and MAX_PAGES (22); of a lasting tree also
-- NO_OPEN_SUPPORT (17), CACHE_SYMLINKS (23) and NO_OPENDIR_SUPPORT (24); of a tree with access
-- control lists also POSIX_ACL (20)
abbrev pub served_flags : Bool → Bool → ℕ
served_flags lasting acls =
    (if lasting then 0x01c66011 else 0x00446011) + (if acls then 0x00100000 else 0)

-- max_pages, if the client's flags have MAX_PAGES
abbrev pub max_pages : Bool → ℕ → ℕ
max_pages lasting flags = if has_bit 22 flags then (if lasting then 256 else 32) else 0

-- init_out up to max_write, which is all that clients of minor versions below 23 know
unfoldable pub init_out_22 : ℕ → ℕ → List ℕ
init_out_22 readahead session_flags =
    -- major, minor, max_readahead, flags
    u32 7 ++ u32 31 ++ u32 (min readahead MAX_READAHEAD) ++ u32 session_flags
    -- max_background, congestion_threshold, max_write
    ++ u16 12 ++ u16 9 ++ u32 MAX_WRITE

-- init_out from there on: time_gran, max_pages, map_alignment, unused
unfoldable pub init_out_rest : Bool → ℕ → List ℕ
init_out_rest lasting flags = u32 1 ++ u16 (max_pages lasting flags) ++ u16 0 ++ zeros 32

-- init_out: only the version for a client of a later major version, otherwise the session's terms
unfoldable pub init_out : InitOut → List ℕ
init_out Version = u32 7 ++ u32 31 ++ zeros 56
init_out (Terms lasting acls minor readahead flags) =
    let front = init_out_22 readahead (bit_and flags (served_flags lasting acls)) in
    if nat_lt minor 23 then front else front ++ init_out_rest lasting flags

-- attr: its three times are equal
unfoldable pub attr : Attr → List ℕ
attr a =
    -- ino, size, blocks
    u64 a.ino ++ u64 a.size ++ u64 a.blocks
    -- atime, mtime, ctime, atimensec, mtimensec, ctimensec
    ++ u64 a.seconds ++ u64 a.seconds ++ u64 a.seconds
    ++ u32 a.nanoseconds ++ u32 a.nanoseconds ++ u32 a.nanoseconds
    -- mode, nlink, uid, gid, rdev, blksize, padding
    ++ u32 a.mode ++ u32 a.nlink ++ u32 a.uid ++ u32 a.gid ++ u32 a.rdev ++ u32 4096 ++ u32 0

-- entry_out of a node: it and its attributes are valid for an hour
unfoldable pub entry_out : Attr → List ℕ
entry_out a =
    -- nodeid, generation, entry_valid, attr_valid, entry_valid_nsec, attr_valid_nsec, attr
    u64 a.ino ++ u64 0 ++ u64 3600 ++ u64 3600 ++ u32 0 ++ u32 0 ++ attr a

-- entry_out for a name without an entry: its nodeid is 0, and entry_valid says how long it has none
unfoldable pub negative_entry_out : List ℕ
negative_entry_out =
    -- nodeid, generation, entry_valid, attr_valid, entry_valid_nsec, attr_valid_nsec, attr
    u64 0 ++ u64 0 ++ u64 3600 ++ u64 0 ++ u32 0 ++ u32 0 ++ zeros 88

-- attr_out: the attributes are valid for an hour
unfoldable pub attr_out : Attr → List ℕ
attr_out a =
    -- attr_valid, attr_valid_nsec, dummy, attr
    u64 3600 ++ u32 0 ++ u32 0 ++ attr a

-- open_out: these flags, and no handle
unfoldable pub open_out : ℕ → List ℕ
open_out flags =
    -- fh, open_flags, padding
    u64 0 ++ u32 flags ++ u32 0

-- getxattr_out: how many bytes there are
unfoldable pub getxattr_out : ℕ → List ℕ
getxattr_out size =
    -- size, padding
    u32 size ++ u32 0

-- statfs_out, which holds a kstatfs
unfoldable pub statfs_out : ℕ → ℕ → List ℕ
statfs_out blocks files =
    -- blocks, bfree, bavail, files, ffree
    u64 blocks ++ u64 0 ++ u64 0 ++ u64 files ++ u64 0
    -- bsize, namelen, frsize, padding, spare
    ++ u32 512 ++ u32 MAX_NAME_SIZE ++ u32 512 ++ u32 0 ++ zeros 24

-- FUSE_DIRENT_SIZE: the bytes of a dirent whose name has n bytes, a multiple of 8
abbrev pub dirent_size : ℕ → ℕ
dirent_size n = (24 + n + 7) / 8 * 8

-- dirent up to its name: ino, off, namelen, type
unfoldable pub dirent_front : ℕ → ℕ → ℕ → List ℕ → List ℕ
dirent_front ino off file_type name = u64 ino ++ u64 off ++ u32 (length name) ++ u32 file_type

-- the zeros after a name of n bytes
abbrev pub padding : ℕ → List ℕ
padding n = zeros (dirent_size n - (24 + n))

-- dirent, its name, and zeros up to its size
unfoldable pub dirent : ℕ → ℕ → ℕ → List ℕ → List ℕ
dirent ino off file_type name = dirent_front ino off file_type name ++ name ++ padding (length name)

-- direntplus: an entry_out, all zeros if the row has no entry, and the dirent
unfoldable pub direntplus : Option Attr → ℕ → ℕ → ℕ → List ℕ → List ℕ
direntplus entry ino off file_type name =
    option_map_or entry_out entry (zeros 128) ++ dirent ino off file_type name

-- dirent up to its name, for a row of the code
abbrev pub row_front : Dirent → List ℕ
row_front row = dirent_front row.ino row.off row.file_type row.name.now

-- dirent, for a row of the code
abbrev pub row_bytes : Dirent → List ℕ
row_bytes row = dirent row.ino row.off row.file_type row.name.now

-- direntplus, for an entry and a row of the code
abbrev pub plus_row_bytes : Option Attr → Dirent → List ℕ
plus_row_bytes entry row = direntplus entry row.ino row.off row.file_type row.name.now
