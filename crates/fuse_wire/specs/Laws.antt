-- linux/fuse.h: the lengths of the structures of requests, and of those of replies.
use Rattle.std.specs.Prelude.{◌≡◌, ◌≢◌, ℕ, ◌+◌, ◌%◌, ◌<◌, ◌≤◌, List, length, Bool, Option, nat_lt, if◌then◌else◌}
use Rattle.stack_model.specs.declared.attr.Attr.{Attr}
use Rattle.fuse_wire.specs.declared.reply.InitOut.TheVariants.{Version, Terms}
use Rattle.fuse_wire.specs.Requests.{malformed, op_of}
use Rattle.fuse_wire.specs.Structures.{init_out, entry_out, negative_entry_out, attr_out, open_out, getxattr_out, statfs_out, dirent_size, dirent, direntplus}

-- the opcode needs a body of n bytes, and no more
pub record Needs (opcode n : ℕ) : Type 0 where
  pub short : (body : List ℕ) → length body < n → op_of opcode body ≡ malformed opcode
  pub whole : (body : List ℕ) → n ≤ length body → op_of opcode body ≢ malformed opcode

-- forget_in, getattr_in, open_in, read_in, init_in, batch_forget_in; and getxattr_in, if it has no
-- name
pub record BodySizes : Type 0 where
  pub forget : Needs 2 8
  pub getattr : Needs 3 16
  pub open_file : Needs 14 8
  pub read : Needs 15 40
  pub init : Needs 26 16
  pub opendir : Needs 27 8
  pub readdir : Needs 28 40
  pub batch_forget : Needs 42 8
  pub readdirplus : Needs 44 40
  pub listxattr : Needs 23 8

-- the structures of replies
pub record ReplySizes : Type 0 where
  pub version : length (init_out Version) ≡ 64
  pub terms : (lasting acls : Bool) (minor readahead flags : ℕ)
      → length (init_out (Terms lasting acls minor readahead flags))
      ≡ (if nat_lt minor 23 then 24 else 64)
  pub entry : (a : Attr) → length (entry_out a) ≡ 128
  pub negative_entry : length negative_entry_out ≡ 128
  pub attr : (a : Attr) → length (attr_out a) ≡ 104
  pub open_file : (flags : ℕ) → length (open_out flags) ≡ 16
  pub getxattr : (size : ℕ) → length (getxattr_out size) ≡ 8
  pub statfs : (blocks files : ℕ) → length (statfs_out blocks files) ≡ 80

-- rows fill a multiple of 8 bytes, and are no longer than needed
pub record RowSizes : Type 0 where
  pub dirent : (ino off file_type : ℕ) (name : List ℕ)
      → length (dirent ino off file_type name) ≡ dirent_size (length name)
  pub plus :
      (entry : Option Attr) (ino off file_type : ℕ) (name : List ℕ) →
      length (direntplus entry ino off file_type name) ≡ 128 + dirent_size (length name)
  pub whole : (n : ℕ) → dirent_size n % 8 ≡ 0
  pub holds : (n : ℕ) → 24 + n ≤ dirent_size n
  pub tight : (n : ℕ) → dirent_size n < 24 + n + 8
