-- The sizes of structures, in bytes, each by counting its fields: `sizes` are all of them, from which the writers know how long a reply
-- will be. Rows add the length of a name. `plus_row_is` says that a row of READDIRPLUS may be written in parts.
use Rattle.std.proofs.Common.{◌≡◌, ◌∙◌, ap, ℕ, zero, suc, ◌+◌, ◌-◌, List, ◌++◌, length, append_assoc, Bool, true, false, Option, Some, None, cond, refl, arith, length-append}
use Rattle.std.specs.Prelude.{nat_lt, replicate, bit_and}
use Rattle.std.specs.Option.{option_map_or}
use Rattle.fuse_wire.specs.declared.errno.Errno.{Errno}
use Rattle.stack_model.specs.declared.attr.Attr.{Attr}
use Rattle.fuse_wire.specs.declared.reply.Dirent.{Dirent}
use Rattle.fuse_wire.specs.declared.reply.InitOut.TheVariants.{Version, Terms}
use Rattle.fuse_wire.specs.Structures.{u16, u32, u64, zeros, served_flags, init_out, init_out_22, init_out_rest, attr, entry_out, negative_entry_out, attr_out, open_out, getxattr_out, statfs_out, dirent_size, dirent_front, dirent, direntplus, padding, row_front, plus_row_bytes}
use Rattle.fuse_wire.specs.Replies.{reply_head, reply_with, error_reply}

-- a reply's header has 16 bytes
pub length-head : (unique n : ℕ) → length (reply_head unique n) ≡ 16
unfolding reply_head u32 u64
length-head unique n = refl

-- the reply of an error is a header alone
pub length-error_reply : (unique : ℕ) (errno : Errno) → length (error_reply unique errno) ≡ 16
unfolding error_reply u32 u64
length-error_reply unique errno = refl

-- a reply has 16 bytes more than its data
pub length-reply_with : (unique : ℕ) (bytes : List ℕ) → length (reply_with unique bytes) ≡ 16 + length bytes
unfolding reply_with
length-reply_with unique bytes = length-append (reply_head unique (length bytes)) bytes
    ∙ ap (λ n. n + length bytes) (length-head unique (length bytes))

-- INIT is answered with 64 bytes if it gets only the version
pub length-version : length (init_out Version) ≡ 64
unfolding init_out u32 zeros
length-version = refl

-- what clients of minor versions below 23 know of INIT's terms has 24 bytes
pub length-init_out_22 : (readahead flags : ℕ) → length (init_out_22 readahead flags) ≡ 24
unfolding init_out_22 u16 u32
length-init_out_22 readahead flags = refl

-- INIT's terms have 24 bytes for clients of minor versions below 23, otherwise 64
pub length-terms : (lasting acls : Bool) (minor readahead flags : ℕ) → length (init_out (Terms lasting acls minor readahead flags))
    ≡ cond (nat_lt minor 23) 24 64
unfolding init_out init_out_22 init_out_rest u16 u32 zeros
length-terms lasting acls minor readahead flags = either (nat_lt minor 23)
  where
    front : List ℕ
    front = init_out_22 readahead (bit_and flags (served_flags lasting acls))

    either : (b : Bool) → length (cond b front (front ++ init_out_rest lasting flags)) ≡ cond b 24 64
    either true = refl
    either false = refl

-- attributes have 88 bytes
pub length-attr : (a : Attr) → length (attr a) ≡ 88
unfolding attr u32 u64
length-attr a = refl

-- the entry of a node has 128 bytes
pub length-entry_out : (a : Attr) → length (entry_out a) ≡ 128
unfolding entry_out attr u32 u64
length-entry_out a = refl

-- the entry of a name that is none has 128 bytes, too
pub length-negative_entry_out : length negative_entry_out ≡ 128
unfolding negative_entry_out u32 u64 zeros
length-negative_entry_out = refl

-- the answer to a GETATTR has 104 bytes
pub length-attr_out : (a : Attr) → length (attr_out a) ≡ 104
unfolding attr_out attr u32 u64
length-attr_out a = refl

-- the answer to an OPEN or OPENDIR has 16 bytes
pub length-open_out : (flags : ℕ) → length (open_out flags) ≡ 16
unfolding open_out u32 u64
length-open_out flags = refl

-- the answer that says a size has 8 bytes
pub length-getxattr_out : (size : ℕ) → length (getxattr_out size) ≡ 8
unfolding getxattr_out u32
length-getxattr_out size = refl

-- the answer to a STATFS has 80 bytes
pub length-statfs_out : (blocks files : ℕ) → length (statfs_out blocks files) ≡ 80
unfolding statfs_out u32 u64 zeros
length-statfs_out blocks files = refl

length-copies : (n k : ℕ) → length (replicate n k) ≡ n
length-copies zero k = refl
length-copies (suc n) k = ap (λ (m : ℕ). suc m) (length-copies n k)

-- there are as many zeros as are asked for
pub length-zeros : (n : ℕ) → length (zeros n) ≡ n
unfolding zeros
length-zeros n = length-copies n 0

-- a row has 24 bytes before its name
pub length-dirent_front : (ino off file_type : ℕ) (name : List ℕ) → length (dirent_front ino off file_type name) ≡ 24
unfolding dirent_front u32 u64
length-dirent_front ino off file_type name = refl

-- a row of READDIR is as long as the length of its name says
pub length-dirent : (ino off file_type : ℕ) (name : List ℕ) → length (dirent ino off file_type name) ≡ dirent_size (length name)
unfolding dirent
length-dirent ino off file_type name =
    let front = length-dirent_front ino off file_type name in
    let named = length-append (dirent_front ino off file_type name) name in
    let rest = length-zeros (dirent_size (length name) - (24 + length name)) in
    let padded = length-append (dirent_front ino off file_type name ++ name) (zeros (dirent_size (length name) - (24 + length name))) in
    omega arith

-- a row of READDIRPLUS has 128 bytes more, whether or not it has an entry
pub length-direntplus : (entry : Option Attr) (ino off file_type : ℕ) (name : List ℕ) → length (direntplus entry ino off file_type name)
    ≡ 128 + dirent_size (length name)
unfolding direntplus
length-direntplus entry ino off file_type name =
    length-append (option_map_or entry_out entry (zeros 128)) (dirent ino off file_type name)
    ∙ (let front = given entry in let row = length-dirent ino off file_type name in omega arith)
  where
    given : (entry : Option Attr) → length (option_map_or entry_out entry (zeros 128)) ≡ 128
    given None = length-zeros 128
    given (Some a) = length-entry_out a

-- how long each structure, reply and row is
pub ruleset sizes = (
  length-head,
  length-error_reply,
  length-reply_with,
  length-version,
  length-init_out_22,
  length-terms,
  length-attr,
  length-entry_out,
  length-negative_entry_out,
  length-attr_out,
  length-open_out,
  length-getxattr_out,
  length-statfs_out,
  length-zeros,
  length-dirent_front,
  length-dirent,
  length-direntplus,
)

-- the parts of a row of READDIRPLUS, as they are put one after another, are its bytes
pub plus_row_is : (entry : Option Attr) (row : Dirent) (before head front : List ℕ)
    → head ≡ before ++ option_map_or entry_out entry (zeros 128) → front ≡ head ++ row_front row
    → front ++ row.name.now ++ padding (length row.name.now) ≡ before ++ plus_row_bytes entry row
unfolding dirent direntplus
plus_row_is entry row before head front h f = rw (f, h) grind (arith, append_assoc)
