-- Worked examples: what each opcode requests, and rows of directories and attributes as bytes.
use Rattle.std.specs.Prelude.{◌≡◌, ℕ, ◌^◌, List, [], ◌∷◌, ◌++◌, map, flat_map, replicate, codes}
use Rattle.fuse_wire.specs.declared.flags.TheConstants.{ASYNC_READ, EXPORT_SUPPORT, DO_READDIRPLUS, READDIRPLUS_AUTO, NO_OPEN_SUPPORT, PARALLEL_DIROPS, POSIX_ACL, MAX_PAGES, CACHE_SYMLINKS, NO_OPENDIR_SUPPORT, FOPEN_KEEP_CACHE, FOPEN_CACHE_DIR}
use Rattle.fuse_wire.specs.declared.limits.TheConstants.{HEADER_SIZE, OUT_HEADER_SIZE, MAX_DATA_SIZE, MAX_READAHEAD, MAX_WRITE, MAX_MESSAGE_SIZE, MAX_REPLY_SIZE, MAX_NAME_SIZE, MAX_FORGETS}
use Rattle.fuse_wire.specs.Requests.{init, at_node, lookup, getattr, readlink, open_file, read, opendir, readdir, readdirplus, getxattr, listxattr, statfs, done, release, fsync, flush, releasedir, fsyncdir, destroy, silent, forget, batch_forget, interrupt, modify, other, malformed, op_of, asked}
use Rattle.byteorder.specs.Endian.{big_bytes}
use Rattle.stack_model.specs.declared.attr.Attr.{Attr}
use Rattle.fuse_wire.specs.Structures.{u32, u64, zeros, attr, getxattr_out, dirent}

-- a body of 56 bytes: the numbers 2, 1, 9 and 7 of 64 bits, and zeros. As the items of a
-- BATCH_FORGET it has three complete ones after the first 8 bytes, and the count is two
abbrev pub some_body : List ℕ
some_body = u64 2 ++ u64 1 ++ u64 9 ++ u64 7 ++ zeros 24

-- each opcode by its number, and what it requests with that body
pub record OpcodeExamples : Type 0 where
  pub lookup_1 : op_of 1 (codes "name" ++ zeros 1) ≡ at_node (lookup (codes "name"))
  pub forget_2 : op_of 2 some_body ≡ silent (forget 2)
  pub getattr_3 : op_of 3 some_body ≡ at_node getattr
  pub readlink_5 : op_of 5 some_body ≡ at_node readlink
  pub open_14 : op_of 14 some_body ≡ at_node (open_file 2)
  pub read_15 : op_of 15 some_body ≡ at_node (read 1 9)
  pub statfs_17 : op_of 17 some_body ≡ statfs
  pub release_18 : op_of 18 some_body ≡ done release
  pub fsync_20 : op_of 20 some_body ≡ done fsync
  pub flush_25 : op_of 25 some_body ≡ done flush
  pub init_26 : op_of 26 some_body ≡ init 2 0 1 0
  pub opendir_27 : op_of 27 some_body ≡ at_node opendir
  pub readdir_28 : op_of 28 some_body ≡ at_node (readdir 1 9)
  pub releasedir_29 : op_of 29 some_body ≡ done releasedir
  pub fsyncdir_30 : op_of 30 some_body ≡ done fsyncdir
  pub interrupt_36 : op_of 36 some_body ≡ silent interrupt
  pub destroy_38 : op_of 38 some_body ≡ done destroy
  pub batch_forget_42 :
      op_of 42 some_body ≡ silent (batch_forget (record { node = 1; nlookup = 9 } ∷ record {
        node =
            7;
        nlookup = 0;
      } ∷ []))
  pub readdirplus_44 : op_of 44 some_body ≡ at_node (readdirplus 1 9)
  pub getxattr_22 : op_of 22 (u32 65536 ++ zeros 4 ++ codes "user.a" ++ zeros 1)
      ≡ at_node (getxattr 65536 (codes "user.a"))
  pub listxattr_23 : op_of 23 some_body ≡ at_node (listxattr 2)
  -- SETATTR, SYMLINK, MKNOD, MKDIR, UNLINK, RMDIR, RENAME, LINK, WRITE, SETXATTR, REMOVEXATTR,
  -- CREATE, FALLOCATE, RENAME2, COPY_FILE_RANGE
  pub modifying :
      map (λ opcode. op_of opcode some_body)
      (4 ∷ 6 ∷ 8 ∷ 9 ∷ 10 ∷ 11 ∷ 12 ∷ 13 ∷ 16 ∷ 21 ∷ 24 ∷ 35 ∷ 43 ∷ 45 ∷ 47 ∷ [])
      ≡ replicate 15 modify
  -- every other number up to 60, among them ACCESS 34 and LSEEK 46, and one far beyond
  pub others :
      map (λ opcode. op_of opcode some_body)
      (0 ∷ 7 ∷ 19 ∷ 31 ∷ 32 ∷ 33 ∷ 34 ∷ 37 ∷ 39 ∷ 40 ∷ 41 ∷ 46 ∷ 48 ∷ 49 ∷ 50 ∷ 51 ∷ 52 ∷
      53 ∷ 54 ∷ 55 ∷ 56 ∷ 57
      ∷ 58 ∷ 59 ∷ 60 ∷ 4096 ∷ [])
      ≡ replicate 26 other

-- a message's unique and node lie before its body, in this order
pub record MessageExamples : Type 0 where
  pub header :
      asked (u32 56 ++ u32 3 ++ u64 5 ++ u64 9 ++ zeros 16 ++ zeros 16) ≡ record {
        unique =
            5;
        node = 9;
        op = at_node getattr;
      }

-- the items of a BATCH_FORGET: no more than its count, and only complete ones
pub record ForgetExamples : Type 0 where
  pub no_items : op_of 42 (u32 0xffffffff ++ zeros 4) ≡ silent (batch_forget [])
  pub count_zero : op_of 42 (zeros 24) ≡ silent (batch_forget [])
  pub half_an_item : op_of 42 (u32 2 ++ zeros 4 ++ u64 3 ++ u64 4 ++ zeros 15) ≡ silent
      (batch_forget (record { node = 3; nlookup = 4 } ∷ []))
  pub short : op_of 42 (zeros 7) ≡ malformed 42

-- the name of a GETXATTR follows its structure, and ends with the only zero byte after the
-- structure
pub record XattrExamples : Type 0 where
  pub one_byte : op_of 22 (zeros 8 ++ codes "a" ++ zeros 1) ≡ at_node (getxattr 0 (codes "a"))
  pub short : op_of 22 (zeros 7) ≡ malformed 22
  pub nameless : op_of 22 (zeros 8) ≡ malformed 22
  pub empty : op_of 22 (zeros 9) ≡ malformed 22
  pub unended : op_of 22 (zeros 8 ++ codes "user.a") ≡ malformed 22
  pub two_zeros : op_of 22 (zeros 8 ++ codes "a" ++ zeros 2) ≡ malformed 22
  pub zero_within : op_of 22 (zeros 8 ++ codes "a" ++ zeros 1 ++ codes "b" ++ zeros 1)
      ≡ malformed 22
  pub short_list : op_of 23 (zeros 7) ≡ malformed 23
  pub longer_list : op_of 23 (u32 5 ++ zeros 4 ++ codes "a") ≡ at_node (listxattr 5)
  pub out : getxattr_out 0x10203 ≡ 3 ∷ 2 ∷ 1 ∷ 0 ∷ 0 ∷ 0 ∷ 0 ∷ 0 ∷ []

-- names and their zeros fill a multiple of 8 bytes
pub record DirentExamples : Type 0 where
  pub one_byte : dirent 1 2 4 (codes "n") ≡ u64 1 ++ u64 2 ++ u32 1 ++ u32 4 ++ codes "n" ++ zeros 7
  pub seven_bytes : dirent 1 2 4 (codes "nnnnnnn") ≡ u64 1 ++ u64 2 ++ u32 7 ++ u32 4
      ++ codes "nnnnnnn" ++ zeros 1
  pub eight_bytes : dirent 1 2 4 (codes "nnnnnnnn") ≡ u64 1 ++ u64 2 ++ u32 8 ++ u32 4
      ++ codes "nnnnnnnn"
  pub nine_bytes : dirent 1 2 4 (codes "nnnnnnnnn") ≡ u64 1 ++ u64 2 ++ u32 9 ++ u32 4
      ++ codes "nnnnnnnnn" ++ zeros 7

-- a setuid file of user 1000 and group 2^32 - 1, last changed a second and a quarter before 1970:
-- at -2 seconds and 750,000,000 nanoseconds
abbrev pub some_attributes : Attr
some_attributes = record {
  ino = 0x123;
  size = 0x1001;
  blocks = 9;
  seconds = 0xfffffffffffffffe;
  nanoseconds = 750000000;
  mode = 0o104755;
  nlink = 2;
  uid = 1000;
  gid = 0xffffffff;
  rdev = 0;
}

-- its 88 bytes as a dump prints them, four at a time, by the offset of each field in the structure:
-- 0 ino, 8 size, 16 blocks, 24 atime, 32 mtime, 40 ctime, 48 atimensec, 52 mtimensec, 56 ctimensec,
-- 60 mode, 64 nlink, 68 uid, 72 gid, 76 rdev, 80 blksize, 84 padding
pub record AttributesExample : Type 0 where
  pub are : attr some_attributes ≡ flat_map (λ word. big_bytes 4 word) (
      0x23010000 ∷ 0x00000000 ∷ 0x01100000 ∷ 0x00000000 ∷ 0x09000000 ∷ 0x00000000
      ∷ 0xfeffffff ∷ 0xffffffff ∷ 0xfeffffff ∷ 0xffffffff ∷ 0xfeffffff ∷ 0xffffffff
      ∷ 0x8017b42c ∷ 0x8017b42c ∷ 0x8017b42c ∷ 0xed890000 ∷ 0x02000000
      ∷ 0xe8030000 ∷ 0xffffffff ∷ 0x00000000 ∷ 0x00100000 ∷ 0x00000000 ∷ [])

-- the flags of INIT and of the replies to OPEN and OPENDIR, by the places of their bits
pub record FlagExamples : Type 0 where
  pub async_read : ASYNC_READ ≡ 2 ^ 0
  pub export_support : EXPORT_SUPPORT ≡ 2 ^ 4
  pub do_readdirplus : DO_READDIRPLUS ≡ 2 ^ 13
  pub readdirplus_auto : READDIRPLUS_AUTO ≡ 2 ^ 14
  pub no_open_support : NO_OPEN_SUPPORT ≡ 2 ^ 17
  pub parallel_dirops : PARALLEL_DIROPS ≡ 2 ^ 18
  pub posix_acl : POSIX_ACL ≡ 2 ^ 20
  pub max_pages : MAX_PAGES ≡ 2 ^ 22
  pub cache_symlinks : CACHE_SYMLINKS ≡ 2 ^ 23
  pub no_opendir_support : NO_OPENDIR_SUPPORT ≡ 2 ^ 24
  pub keep_cache : FOPEN_KEEP_CACHE ≡ 2 ^ 1
  pub cache_dir : FOPEN_CACHE_DIR ≡ 2 ^ 3

-- the limits of messages and replies
pub record LimitExamples : Type 0 where
  pub header : HEADER_SIZE ≡ 40
  pub out_header : OUT_HEADER_SIZE ≡ 16
  pub most_data : MAX_DATA_SIZE ≡ 1048576
  pub readahead : MAX_READAHEAD ≡ 1048576
  pub write : MAX_WRITE ≡ 131072
  pub message : MAX_MESSAGE_SIZE ≡ 1052672
  pub reply : MAX_REPLY_SIZE ≡ 1048592
  pub name : MAX_NAME_SIZE ≡ 255
  pub forgets : MAX_FORGETS ≡ 65789
