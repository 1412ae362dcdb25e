-- Worked examples: images and requests written out, and the answers to them.
use Rattle.std.specs.Prelude.{◌≡◌, false, map, ℤ, pos, negsuc, ℕ, zero, suc, ◌+◌, ◌-◌, ◌%◌, ◌^◌, List, [], ◌∷◌, ◌++◌, length, take, drop, replicate, true, codes, Some}
use Rattle.std.specs.List.{flat_map}
use Rattle.byteorder.specs.Endian.{big_bytes}
use Rattle.romfs_format.specs.declared.head.Kind.TheVariants.{HardLink, Directory}
use Rattle.romfs_format.specs.declared.rule.Profile.TheVariants.{Usual}
use Rattle.romfs_format.specs.declared.rule.Rule.TheVariants.{Short, Magic, FullSize, NoRoot, Outside, NameBad, DataOutside, LinkedTwice, SameName, MajorLarge, TooDeep}
use Rattle.romfs_format.specs.Rules.{IsNamedBefore, IsFault}
use Rattle.romfs_format.specs.Fields.{padded, image, root, kind, exec, next, spec, size, name}
use Rattle.fuse_wire.specs.declared.limits.TheConstants.{HEADER_SIZE, MAX_DATA_SIZE, MAX_MESSAGE_SIZE}
use Rattle.fuse_wire.specs.Requests.{init, done, destroy, asked}
use Rattle.fuse_wire.specs.Stream.{IsMessage, IsUnfinished, IsBad}
use Rattle.fuse_wire.specs.Structures.{u32, u64, zeros}
use Rattle.stack_model.specs.Listing.{Entry, Stacked, stacked}
use Rattle.reply_model.specs.declared.session.Session.{Session}
use Rattle.reply_model.specs.declared.session.Session.TheVariants.{Fresh, Ready}
use Rattle.reply_model.specs.declared.moves.Move.{Move}
use Rattle.reply_model.specs.Sessions.{session_after}
use Rattle.reply_model.specs.Replies.{reply}
use Rattle.reply_model.specs.Moves.{moves}
use Rattle.reply_model.specs.Streams.{replies, balance_after}

-- bytes as a dump prints them, four at a time
abbrev pub dump : List ℕ → List ℕ
dump words = flat_map (λ word. big_bytes 4 word) words

-- the empty image: a root that holds only . and ..
unfoldable pub empty_image : List ℕ
empty_image = dump (
    0x2d726f6d ∷ 0x3166732d ∷ 0x00000060 ∷ 0x2b271d06 ∷ 0x76000000 ∷ 0x00000000 ∷ 0x00000000 ∷
    0x00000000
    ∷ 0x00000049 ∷ 0x00000020 ∷ 0x00000000 ∷ 0xd1ffff97 ∷ 0x2e000000 ∷ 0x00000000 ∷ 0x00000000 ∷
    0x00000000
    ∷ 0x00000000 ∷ 0x00000020 ∷ 0x00000000 ∷ 0xd1d1ffe0 ∷ 0x2e2e0000 ∷ 0x00000000 ∷ 0x00000000 ∷
    0x00000000 ∷ [])

-- the numbers from i on modulo 251
abbrev pub counted : ℕ → ℕ → List ℕ
counted zero i = []
counted (suc n) i = i % 251 ∷ counted n (i + 1)

-- the sample image: a file big of 5,000 bytes, a directory d with a file x that holds hi, a
-- symbolic link l to d/x, and a character device null with major 1 and minor 3
unfoldable pub sample_image : List ℕ
sample_image = dump (
    0x2d726f6d ∷ 0x3166732d ∷ 0x000014f0 ∷ 0x1eba3c6c ∷ 0x76000000 ∷ 0x00000000 ∷ 0x00000000 ∷
    0x00000000
    ∷ 0x00000049 ∷ 0x00000020 ∷ 0x00000000 ∷ 0xd1ffff97 ∷ 0x2e000000 ∷ 0x00000000 ∷ 0x00000000 ∷
    0x00000000
    ∷ 0x00000060 ∷ 0x00000020 ∷ 0x00000000 ∷ 0xd1d1ff80 ∷ 0x2e2e0000 ∷ 0x00000000 ∷ 0x00000000 ∷
    0x00000000
    ∷ 0x00001412 ∷ 0x00000000 ∷ 0x00001388 ∷ 0x9d967166 ∷ 0x62696700 ∷ 0x00000000 ∷ 0x00000000 ∷
    0x00000000 ∷ [])
    ++ counted 5000 0 ++ replicate 8 0 ++ dump (
    0x000014a9 ∷ 0x00001430 ∷ 0x00000000 ∷ 0x9bffd727 ∷ 0x64000000 ∷ 0x00000000 ∷ 0x00000000 ∷
    0x00000000
    ∷ 0x00001450 ∷ 0x00001410 ∷ 0x00000000 ∷ 0xd1ffd7a0 ∷ 0x2e000000 ∷ 0x00000000 ∷ 0x00000000 ∷
    0x00000000
    ∷ 0x00001470 ∷ 0x00000020 ∷ 0x00000000 ∷ 0xd1d1eb70 ∷ 0x2e2e0000 ∷ 0x00000000 ∷ 0x00000000 ∷
    0x00000000
    ∷ 0x00000002 ∷ 0x00000000 ∷ 0x00000002 ∷ 0x87fffffc ∷ 0x78000000 ∷ 0x00000000 ∷ 0x00000000 ∷
    0x00000000
    ∷ 0x68690000 ∷ 0x00000000 ∷ 0x00000000 ∷ 0x00000000 ∷ 0x000014d3 ∷ 0x00000000 ∷ 0x00000003 ∷
    0x93ffeb2a
    ∷ 0x6c000000 ∷ 0x00000000 ∷ 0x00000000 ∷ 0x00000000 ∷ 0x642f7800 ∷ 0x00000000 ∷ 0x00000000 ∷
    0x00000000
    ∷ 0x00000005 ∷ 0x00010003 ∷ 0x00000000 ∷ 0x9189938c ∷ 0x6e756c6c ∷ 0x00000000 ∷ 0x00000000 ∷
    0x00000000 ∷ [])

-- what the empty image shows
unfoldable pub empty_entries : List Entry
empty_entries = record { path = []; layer = 0; header = 0x20 } ∷ []

-- what the sample image shows
unfoldable pub sample_entries : List Entry
sample_entries =
    record { path = []; layer = 0; header = 0x20 }
    ∷ record { path = codes "big" ∷ []; layer = 0; header = 0x60 }
    ∷ record { path = codes "d" ∷ []; layer = 0; header = 0x1410 }
    ∷ record { path = codes "d" ∷ codes "x" ∷ []; layer = 0; header = 0x1470 }
    ∷ record { path = codes "l" ∷ []; layer = 0; header = 0x14a0 }
    ∷ record { path = codes "null" ∷ []; layer = 0; header = 0x14d0 }
    ∷ []

-- the stack of the empty image alone
abbrev pub empty_stack : Stacked
empty_stack = stacked (empty_image ∷ []) empty_entries

-- the stack of the sample image alone
abbrev pub sample_stack : Stacked
sample_stack = stacked (sample_image ∷ []) sample_entries

-- a message: opcode, unique, node, body; the sender is 0
abbrev pub request : ℕ → ℕ → ℕ → List ℕ → List ℕ
request opcode unique node body =
    u32 (HEADER_SIZE + length body) ++ u32 opcode ++ u64 unique ++ u64 node ++ zeros 16 ++ body

-- init_in
abbrev pub init_in : ℕ → ℕ → ℕ → ℕ → List ℕ
init_in major minor readahead flags = u32 major ++ u32 minor ++ u32 readahead ++ u32 flags

-- read_in
abbrev pub read_in : ℕ → ℕ → List ℕ
read_in offset size = u64 0 ++ u64 offset ++ u32 size ++ zeros 20

-- the reply with an error: its number is negated, as 32 bits
abbrev pub refused : ℕ → ℕ → List ℕ
refused unique error = u32 16 ++ u32 error ++ u64 unique

-- the header of a reply with n bytes in all
abbrev pub headed : ℕ → ℕ → List ℕ
headed unique n = u32 n ++ u32 0 ++ u64 unique

-- the reply to a message over the empty image, in this session
abbrev pub over_empty : Session → List ℕ → List ℕ
over_empty s m = reply empty_stack s (asked m)

-- the reply to a message over the sample image, in a session without EXPORT_SUPPORT
abbrev pub over_sample : List ℕ → List ℕ
over_sample m = reply sample_stack (Ready false false) (asked m)

-- which of two faults is named
pub record FaultOrder : Type 0 where
  pub volume_by_rule : IsNamedBefore Magic 0 FullSize 8
  pub volume_first : IsNamedBefore NoRoot 0x20 Outside 0x10
  pub lower_place : IsNamedBefore MajorLarge 0x60 Outside 0x80
  pub lower_rule : IsNamedBefore NameBad 0x60 DataOutside 0x60
  pub twice_before_name : IsNamedBefore LinkedTwice 0x60 SameName 0x60
  pub depth_last : IsNamedBefore MajorLarge 0xfff0 TooDeep 0x20

-- the empty image with a wrong first byte and a wrong full size
abbrev pub two_faults : List ℕ
two_faults = dump (0x2e726f6d ∷ 0x3166732d ∷ 0x0000000f ∷ 0x2b271d06 ∷ [])

-- only the first of the two is its fault
pub record FaultExamples : Type 0 where
  pub magic : IsFault Usual two_faults Magic 0
  pub short : IsFault Usual (take 15 two_faults) Short 0

-- the header fields of the empty image
pub record EmptyImageFields : Type 0 where
  pub padded_16 : padded 16 ≡ 16
  pub padded_17 : padded 17 ≡ 32
  pub whole : image empty_image ≡ empty_image
  pub root_at : root empty_image ≡ 0x20
  pub root_kind : kind empty_image 0x20 ≡ Directory
  pub root_exec : exec empty_image 0x20 ≡ true
  pub root_next : next empty_image 0x20 ≡ 0x40
  pub root_spec : spec empty_image 0x20 ≡ 0x20
  pub root_name : name empty_image 0x20 ≡ Some (codes ".")
  pub up_kind : kind empty_image 0x40 ≡ HardLink
  pub up_next : next empty_image 0x40 ≡ 0
  pub up_spec : spec empty_image 0x40 ≡ 0x20
  pub up_name : name empty_image 0x40 ≡ Some (codes "..")

-- lengths at both ends of what a message may have
pub record StreamExamples : Type 0 where
  pub shortest : IsMessage (request 38 1 0 [])
  pub too_short : IsBad (dump (0x27000000 ∷ [])) 39
  pub longest : IsUnfinished (dump (0x00101000 ∷ []))
  pub too_long : IsBad (dump (0x01101000 ∷ [])) (MAX_MESSAGE_SIZE + 1)
  pub three_bytes : IsUnfinished (replicate 3 0)
  pub nothing : ¬ IsUnfinished []

-- INIT 7.31 with max_readahead 131,072 and flags 0x6001
abbrev pub init_request : List ℕ
init_request = dump (
    0x38000000 ∷ 0x1a000000 ∷ 0x01000000 ∷ 0x00000000 ∷ 0x00000000 ∷ 0x00000000 ∷ 0x00000000 ∷
    0x00000000
    ∷ 0x00000000 ∷ 0x00000000 ∷ 0x07000000 ∷ 0x1f000000 ∷ 0x00000200 ∷ 0x01600000 ∷ [])

-- its reply: the flags and the readahead that it asked for
abbrev pub init_reply : List ℕ
init_reply = dump (
    0x50000000 ∷ 0x00000000 ∷ 0x01000000 ∷ 0x00000000 ∷ 0x07000000 ∷ 0x1f000000 ∷ 0x00000200 ∷
    0x01600000
    ∷ 0x0c000900 ∷ 0x00000200 ∷ 0x01000000 ∷ 0x00000000 ∷ []) ++ replicate 32 0

-- INIT 7.39 with a longer body, all flags, and a max_readahead above the limit
abbrev pub newer_init_reply : List ℕ
newer_init_reply = dump (
    0x50000000 ∷ 0x00000000 ∷ 0x01000000 ∷ 0x00000000 ∷ 0x07000000 ∷ 0x1f000000 ∷ 0x00001000 ∷
    0x11604400
    ∷ 0x0c000900 ∷ 0x00000200 ∷ 0x01000000 ∷ 0x20000000 ∷ []) ++ replicate 32 0

-- a client of major version 8 gets the version
abbrev pub version_reply : List ℕ
version_reply =
    dump (0x50000000 ∷ 0x00000000 ∷ 0x01000000 ∷ 0x00000000 ∷ 0x07000000 ∷ 0x1f000000 ∷ [])
    ++ replicate 56 0

-- a client of minor version 22 gets only the first 24 bytes, and still minor version 31
abbrev pub older_init_reply : List ℕ
older_init_reply = dump (
    0x28000000 ∷ 0x00000000 ∷ 0x01000000 ∷ 0x00000000 ∷ 0x07000000 ∷ 0x1f000000 ∷ 0x00000200 ∷
    0x01000000
    ∷ 0x0c000900 ∷ 0x00000200 ∷ [])

-- INIT: versions and terms, and the answers of a session that has not begun
pub record InitExamples : Type 0 where
  pub accepted : over_empty Fresh init_request ≡ init_reply
  pub newer : over_empty Fresh (request 26 1 0 (init_in 7 39 2097152 0x73fffffb ++ zeros 48))
      ≡ newer_init_reply
  pub agreed :
      replies empty_stack Fresh
      (request 26 1 0 (init_in 8 0 0 0) ∷ request 3 2 1 (zeros 16)
      ∷ request 26 3 0 (init_in 7 31 131072 0x6001)
      ∷ request 26 4 0 (init_in 7 31 131072 0x6001) ∷ [])
      ≡ version_reply ++ refused 2 0xfffffffb ++ headed 3 80 ++ drop 16 init_reply
      ++ refused 4 0xfffffffb
  pub minor_22 : over_empty Fresh (request 26 1 0 (init_in 7 22 131072 0x1)) ≡ older_init_reply
  pub after_minor_22 :
      length (replies empty_stack Fresh
      (request 26 1 0 (init_in 7 22 131072 0x1) ∷ request 3 2 1 (zeros 16) ∷ []))
      ≡ 160
  pub minor_12 : length (over_empty Fresh (request 26 1 0 (init_in 7 12 131072 0x1))) ≡ 40
  pub minor_23 : length (over_empty Fresh (request 26 1 0 (init_in 7 23 131072 0x1))) ≡ 80
  pub exported : take 4 (drop 28 (over_empty Fresh (request 26 1 0 (init_in 7 31 131072 0x10))))
      ≡ u32 0x10
  pub every_flag : take 4 (drop 28 (over_empty Fresh (request 26 1 0 (init_in 7 31 0 0xffffffff))))
      ≡ u32 0x446011
  pub older_minor : over_empty Fresh (request 26 1 0 (init_in 7 11 131072 0x1))
      ≡ refused 1 0xffffffb9
  pub older_major : over_empty Fresh (request 26 1 0 (init_in 6 31 131072 0x1))
      ≡ refused 1 0xffffffb9
  pub fresh_write : over_empty Fresh (request 16 1 1 (zeros 40)) ≡ refused 1 0xfffffffb
  pub fresh_release : over_empty Fresh (request 18 1 1 (zeros 24)) ≡ refused 1 0xfffffffb
  pub fresh_forget : over_empty Fresh (request 2 1 1 (zeros 8)) ≡ []
  pub short : over_empty Fresh (request 26 1 0 (take 15 (init_in 7 31 131072 0x1)))
      ≡ refused 1 0xffffffea

-- when sessions begin and end, and that only the accepted INIT says whether . and .. are looked up
pub record SessionExamples : Type 0 where
  pub begins : session_after Fresh (init 7 31 131072 0x6001) ≡ Ready false false
  pub exports : session_after Fresh (init 7 12 0 0x10) ≡ Ready true false
  pub other_flags : session_after Fresh (init 7 31 0 0xffefffef) ≡ Ready false false
  pub acls : session_after Fresh (init 7 31 0 0x100000) ≡ Ready false true
  pub minor_11 : session_after Fresh (init 7 11 0 0x10) ≡ Fresh
  pub major_8 : session_after Fresh (init 8 31 0 0x10) ≡ Fresh
  pub destroyed_fresh : session_after Fresh (done destroy) ≡ Fresh
  pub init_again : session_after (Ready true false) (init 7 31 0 0) ≡ Ready true false
  pub destroyed : session_after (Ready true false) (done destroy) ≡ Fresh
  pub ended :
      replies empty_stack (Ready false false)
      (request 38 1 0 [] ∷ request 3 2 1 (zeros 16) ∷ request 38 3 0 [] ∷ [])
      ≡ headed 1 16 ++ refused 2 0xfffffffb ++ refused 3 0xfffffffb

-- the reply to a GETATTR of the root of the empty image, in use by two names
abbrev pub root_attr_reply : List ℕ
root_attr_reply = dump (
    0x78000000 ∷ 0x00000000 ∷ 0x02000000 ∷ 0x00000000
    ∷ 0x100e0000 ∷ 0x00000000 ∷ 0x00000000 ∷ 0x00000000
    ∷ 0x01000000 ∷ 0x00000000 ∷ []) ++ replicate 40 0 ++ dump (
    0x00000000 ∷ 0x00000000 ∷ 0x00000000 ∷ 0xed410000 ∷ 0x02000000
    ∷ 0x00000000 ∷ 0x00000000 ∷ 0x00000000 ∷ 0x00100000 ∷ 0x00000000 ∷ [])

-- GETATTR of the root, of numbers that are not in use, and of a short body
pub record GetattrExamples : Type 0 where
  pub of_root : over_empty (Ready false false) (request 3 2 1 (zeros 16)) ≡ root_attr_reply
  pub of_two : over_empty (Ready false false) (request 3 3 2 (zeros 16))
      ≡ dump (0x10000000 ∷ 0x8cffffff ∷ 0x03000000 ∷ 0x00000000 ∷ [])
  pub of_zero : over_empty (Ready false false) (request 3 4 0 (zeros 16)) ≡ refused 4 0xffffff8c
  pub short : over_empty (Ready false false) (request 3 5 2 (zeros 15)) ≡ refused 5 0xffffffea

-- the row . of the root of the empty image
abbrev pub own_row : List ℕ
own_row =
    dump (0x01000000 ∷ 0x00000000 ∷ 0x01000000 ∷ 0x00000000
    ∷ 0x01000000 ∷ 0x04000000 ∷ 0x2e000000 ∷ 0x00000000 ∷ [])

-- its row ..
abbrev pub upper_row : List ℕ
upper_row =
    dump (0x01000000 ∷ 0x00000000 ∷ 0x02000000 ∷ 0x00000000
    ∷ 0x02000000 ∷ 0x04000000 ∷ 0x2e2e0000 ∷ 0x00000000 ∷ [])

-- READDIR of the root: both rows, one, one that just fits, or none; and after the last one
pub record ReaddirExamples : Type 0 where
  pub both : over_empty (Ready false false) (request 28 2 1 (read_in 0 4096))
      ≡ headed 2 80 ++ own_row ++ upper_row
  pub one : over_empty (Ready false false) (request 28 2 1 (read_in 0 63)) ≡ headed 2 48 ++ own_row
  pub just_one : over_empty (Ready false false) (request 28 2 1 (read_in 0 32))
      ≡ headed 2 48 ++ own_row
  pub too_small : over_empty (Ready false false) (request 28 2 1 (read_in 0 31))
      ≡ refused 2 0xffffffea
  pub no_room : over_empty (Ready false false) (request 28 2 1 (read_in 0 0)) ≡ refused 2 0xffffffea
  pub too_large : over_empty (Ready false false) (request 28 2 1 (read_in 0 (MAX_DATA_SIZE + 1)))
      ≡ refused 2 0xffffffea
  pub at_end : over_empty (Ready false false) (request 28 2 1 (read_in 2 0)) ≡ headed 2 16

-- READDIRPLUS of the directory d: three rows in 4,096 bytes, one in 319; . has no entry
pub record ReaddirplusExamples : Type 0 where
  pub three : length (over_sample (request 44 2 3 (read_in 0 4096))) ≡ 496
  pub one : over_sample (request 44 2 3 (read_in 0 319))
      ≡ headed 2 176 ++ replicate 128 0 ++ u64 3 ++ drop 8 own_row
  pub upper : take 32 (drop 304 (over_sample (request 44 2 3 (read_in 0 4096)))) ≡ upper_row
  pub mode : take 4 (drop 100 (drop 336 (over_sample (request 44 2 3 (read_in 0 4096)))))
      ≡ dump (0xa4810000 ∷ [])

-- 5,000 bytes are 4,096 and 904
pub record ReadExamples : Type 0 where
  pub whole : over_sample (request 15 2 2 (read_in 0 MAX_DATA_SIZE)) ≡ headed 2 5016
      ++ counted 5000 0
  pub rest : over_sample (request 15 2 2 (read_in 4096 4096))
      ≡ headed 2 920 ++ drop 4096 (counted 5000 0)
  pub past_end : over_sample (request 15 2 2 (read_in 5000 4096)) ≡ headed 2 16
  pub far_past_end : over_sample (request 15 2 2 (read_in (2 ^ 64 - 1) 4096)) ≡ headed 2 16
  pub nothing : over_sample (request 15 2 2 (read_in 0 0)) ≡ headed 2 16
  pub too_large : over_sample (request 15 2 2 (read_in 0 (MAX_DATA_SIZE + 1))) ≡ refused 2
      0xffffffea
  pub directory : over_sample (request 15 2 3 (read_in 0 1)) ≡ refused 2 0xffffffeb
  pub link : over_sample (request 15 2 5 (read_in 0 1)) ≡ refused 2 0xffffffea
  pub device : over_sample (request 15 2 6 (read_in 0 1)) ≡ refused 2 0xffffffea
  pub stale : over_sample (request 15 2 7 (read_in 0 1)) ≡ refused 2 0xffffff8c

-- the entry of x in the directory d
abbrev pub x_entry_reply : List ℕ
x_entry_reply = dump (
    0x90000000 ∷ 0x00000000 ∷ 0x0a000000 ∷ 0x00000000
    ∷ 0x04000000 ∷ 0x00000000 ∷ 0x00000000 ∷ 0x00000000
    ∷ 0x100e0000 ∷ 0x00000000 ∷ 0x100e0000 ∷ 0x00000000 ∷ 0x00000000 ∷ 0x00000000
    ∷ 0x04000000 ∷ 0x00000000 ∷ 0x02000000 ∷ 0x00000000 ∷ 0x01000000 ∷ 0x00000000 ∷ [])
    ++ replicate 24 0 ++ dump (
    0x00000000 ∷ 0x00000000 ∷ 0x00000000 ∷ 0xa4810000 ∷ 0x01000000
    ∷ 0x00000000 ∷ 0x00000000 ∷ 0x00000000 ∷ 0x00100000 ∷ 0x00000000 ∷ [])

-- LOOKUP of an existing name, of names that are missing, too long or not valid, and in a file
pub record LookupExamples : Type 0 where
  pub entry : over_sample (request 1 10 3 (codes "x" ++ zeros 1)) ≡ x_entry_reply
  pub unended : over_sample (request 1 2 1 (codes "x")) ≡ refused 2 0xffffffea
  pub no_body : over_sample (request 1 2 1 []) ≡ refused 2 0xffffffea
  pub inner_zero : over_sample (request 1 2 1 (codes "d" ++ zeros 1 ++ codes "d" ++ zeros 1))
      ≡ refused 2 0xffffffea
  pub empty_name : over_sample (request 1 2 1 (zeros 1)) ≡ refused 2 0xffffffea
  pub long_name : over_sample (request 1 2 1 (replicate 255 0x71 ++ zeros 1)) ≡ refused 2 0xfffffffe
  pub too_long : over_sample (request 1 2 1 (replicate 256 0x71 ++ zeros 1)) ≡ refused 2 0xffffffdc
  pub marker : over_sample (request 1 2 1 (codes ".wh.x" ++ zeros 1)) ≡ refused 2 0xfffffffe
  pub upper : over_sample (request 1 2 1 (codes ".." ++ zeros 1)) ≡ refused 2 0xfffffffe
  pub in_file : over_sample (request 1 2 2 (replicate 256 0x71 ++ zeros 1)) ≡ refused 2 0xffffffec

-- the sample image with a row for x in the directory d: mode 4711, user 33, group 42, and the
-- second 1,700,000,000 with 5 nanoseconds; everything else belongs to user 1 and group 2
abbrev pub owned_stack : Stacked
owned_stack = record {
  layers = sample_image ∷ [];
  entries = sample_entries;
  rows = (record {
    place = 0x1470;
    mode = 0o4711;
    uid = 33;
    gid = 42;
    seconds = 1700000000;
    nanoseconds = 5;
  } ∷ []) ∷ [];
  lists = [];
  owner = record { uid = 1; gid = 2 };
  whole = true;
}

-- the reply to a message over it
abbrev pub over_owned : List ℕ → List ℕ
over_owned m = reply owned_stack (Ready false false) (asked m)

-- the entry of x in the directory d, with the fields of its row: three times the seconds, three
-- times the nanoseconds, mode, nlink, uid and gid
abbrev pub owned_entry_reply : List ℕ
owned_entry_reply = dump (
    0x90000000 ∷ 0x00000000 ∷ 0x0a000000 ∷ 0x00000000
    ∷ 0x04000000 ∷ 0x00000000 ∷ 0x00000000 ∷ 0x00000000
    ∷ 0x100e0000 ∷ 0x00000000 ∷ 0x100e0000 ∷ 0x00000000 ∷ 0x00000000 ∷ 0x00000000
    ∷ 0x04000000 ∷ 0x00000000 ∷ 0x02000000 ∷ 0x00000000 ∷ 0x01000000 ∷ 0x00000000
    ∷ 0x00f15365 ∷ 0x00000000 ∷ 0x00f15365 ∷ 0x00000000 ∷ 0x00f15365 ∷ 0x00000000
    ∷ 0x05000000 ∷ 0x05000000 ∷ 0x05000000 ∷ 0xc9890000 ∷ 0x01000000
    ∷ 0x21000000 ∷ 0x2a000000 ∷ 0x00000000 ∷ 0x00100000 ∷ 0x00000000 ∷ [])

-- a row's attributes in LOOKUP, GETATTR and READDIRPLUS, in which the row of x has the type of a
-- file; the owner of everything without a row; and all else as without rows
pub record OwnedExamples : Type 0 where
  pub entry : over_owned (request 1 10 3 (codes "x" ++ zeros 1)) ≡ owned_entry_reply
  pub attributes : drop 32 (over_owned (request 3 2 4 (zeros 16))) ≡ drop 56 owned_entry_reply
  pub plus : take 128 (drop 336 (over_owned (request 44 2 3 (read_in 0 4096))))
      ≡ drop 16 owned_entry_reply
  pub plus_type : take 4 (drop 484 (over_owned (request 44 2 3 (read_in 0 4096)))) ≡ u32 8
  pub owner : take 8 (drop 100 (over_owned (request 3 2 2 (zeros 16)))) ≡ u32 1 ++ u32 2
  pub header_mode : take 68 (drop 32 (over_owned (request 3 2 2 (zeros 16))))
      ≡ take 68 (drop 32 (over_sample (request 3 2 2 (zeros 16))))
  pub readdir : over_owned (request 28 2 3 (read_in 0 4096))
      ≡ over_sample (request 28 2 3 (read_in 0 4096))
  pub read : over_owned (request 15 2 4 (read_in 0 4096)) ≡ headed 2 18 ++ codes "hi"

-- the reply to a message over the sample image, in a session with EXPORT_SUPPORT
abbrev pub over_exported : List ℕ → List ℕ
over_exported m = reply sample_stack (Ready true false) (asked m)

-- the body of a LOOKUP of .
abbrev pub itself : List ℕ
itself = codes "." ++ zeros 1

-- the body of a LOOKUP of ..
abbrev pub two_dots : List ℕ
two_dots = codes ".." ++ zeros 1

-- with EXPORT_SUPPORT the name . finds the node itself, whatever its kind, and .. its parent
-- directory
pub record ExportExamples : Type 0 where
  pub directory : over_exported (request 1 2 3 itself)
      ≡ over_sample (request 1 2 1 (codes "d" ++ zeros 1))
  pub file : over_exported (request 1 2 2 itself)
      ≡ over_sample (request 1 2 1 (codes "big" ++ zeros 1))
  pub above : over_exported (request 1 2 3 two_dots) ≡ over_exported (request 1 2 1 itself)
  pub above_root : over_exported (request 1 2 1 two_dots) ≡ over_exported (request 1 2 1 itself)
  pub root : take 48 (over_exported (request 1 2 1 itself))
      ≡ headed 2 144 ++ u64 1 ++ u64 0 ++ u64 3600 ++ u64 3600
  pub above_file : over_exported (request 1 2 2 two_dots) ≡ refused 2 0xffffffec
  pub of_no_node : over_exported (request 1 2 7 itself) ≡ refused 2 0xffffff8c
  pub other_name : over_exported (request 1 10 3 (codes "x" ++ zeros 1)) ≡ x_entry_reply
  pub three_dots : over_exported (request 1 2 1 (codes "..." ++ zeros 1)) ≡ refused 2 0xfffffffe
  pub not_exported : over_sample (request 1 2 3 itself) ≡ refused 2 0xfffffffe
  pub file_not_exported : over_sample (request 1 2 2 itself) ≡ refused 2 0xffffffec

-- requests without a reply, in fresh and ready sessions, whatever their body
pub record SilentExamples : Type 0 where
  pub interrupt : over_sample (request 36 2 0 (zeros 8)) ≡ []
  pub interrupt_fresh : over_empty Fresh (request 36 2 0 []) ≡ []
  pub batch_forget : over_sample (request 42 2 0 (u32 0xffffffff ++ zeros 4)) ≡ []
  pub batch_forget_fresh : over_empty Fresh (request 42 2 0 (zeros 8)) ≡ []
  pub short_forget : over_sample (request 2 2 2 (zeros 7)) ≡ []
  pub short_batch_forget : over_empty Fresh (request 42 2 0 (zeros 7)) ≡ []

-- which of two errors a request gets
pub record RefusalOrder : Type 0 where
  pub session_first : over_empty Fresh (request 99 1 1 []) ≡ refused 1 0xfffffffb
  pub init_again_short : over_sample (request 26 2 0 []) ≡ refused 2 0xfffffffb
  pub modify_before_body : over_sample (request 16 2 99 []) ≡ refused 2 0xffffffe2
  pub body_before_node : over_sample (request 14 2 99 (zeros 7)) ≡ refused 2 0xffffffea
  pub node_before_kind : over_sample
      (request 15 2 99 (read_in 0 (MAX_DATA_SIZE + 1))) ≡ refused 2 0xffffff8c
  pub kind_before_arguments : over_sample (request 15 2 3 (read_in 0 (MAX_DATA_SIZE + 1)))
      ≡ refused 2 0xffffffeb
  pub kind_before_access : over_sample (request 14 2 3 (u32 2 ++ zeros 4)) ≡ refused 2 0xffffffeb
  pub kind_before_rows : over_sample (request 28 2 2 (read_in 0 0)) ≡ refused 2 0xffffffec

-- a second path of the root of the empty image
abbrev pub two_paths : List Entry
two_paths =
    record { path = []; layer = 0; header = 0x20 }
    ∷ record { path = codes "r" ∷ []; layer = 0; header = 0x20 }
    ∷ []

-- mode 0x2180 and rdev 0x103 of the device; the root has one directory; 11 blocks and 6 nodes, and
-- one node if two paths have one place
pub record NodeExamples : Type 0 where
  pub device_mode : take 4 (drop 92 (over_sample (request 3 2 6 (zeros 16))))
      ≡ dump (0x80210000 ∷ [])
  pub device_numbers : take 4 (drop 108 (over_sample (request 3 2 6 (zeros 16))))
      ≡ dump (0x03010000 ∷ [])
  pub root_links : take 4 (drop 96 (over_sample (request 3 2 1 (zeros 16))))
      ≡ dump (0x03000000 ∷ [])
  pub statfs :
      over_sample (request 17 2 0 [])
      ≡ headed 2 96 ++ u64 11 ++ zeros 16 ++ u64 6 ++ zeros 8 ++ u32 512 ++ u32 255 ++ u32 512
      ++ zeros 28
  pub statfs_of_two_paths :
      take 8 (drop 40
      (reply (stacked (empty_image ∷ []) two_paths)
      (Ready false false) (asked (request 17 2 0 []))))
      ≡ u64 1
  pub readdir_of_file : over_sample (request 28 2 2 (read_in 0 4096)) ≡ refused 2 0xffffffec
  pub readdirplus_of_link : over_sample (request 44 2 5 (read_in 0 4096)) ≡ refused 2 0xffffffec
  pub file_mode : take 4 (drop 92 (over_sample (request 3 2 2 (zeros 16)))) ≡ dump (0xa4810000 ∷ [])
  pub directory_mode : take 4 (drop 92 (over_sample (request 3 2 3 (zeros 16))))
      ≡ dump (0xed410000 ∷ [])
  pub link_mode : take 4 (drop 92 (over_sample (request 3 2 5 (zeros 16)))) ≡ dump (0xffa10000 ∷ [])
  pub readlink : over_sample (request 5 2 5 []) ≡ headed 2 19 ++ codes "d/x"
  pub readlink_of_file : over_sample (request 5 2 2 []) ≡ refused 2 0xffffffea
  pub readlink_of_directory : over_sample (request 5 2 3 []) ≡ refused 2 0xffffffea
  pub release : over_sample (request 18 2 99 []) ≡ headed 2 16
  pub forget : over_sample (request 2 2 2 (zeros 8)) ≡ []
  pub write : over_sample (request 16 2 2 (zeros 40)) ≡ refused 2 0xffffffe2
  pub unserved : over_sample (request 99 2 2 []) ≡ refused 2 0xffffffda

-- OPEN answers open_flags FOPEN_KEEP_CACHE, which is 2, and refuses each access mode except
-- O_RDONLY; OPENDIR answers no flags
pub record OpenExamples : Type 0 where
  pub open_file : over_sample (request 14 2 2 (zeros 8))
      ≡ headed 2 32 ++ zeros 8 ++ u32 2 ++ zeros 4
  pub open_to_write : over_sample (request 14 2 2 (u32 1 ++ zeros 4)) ≡ refused 2 0xffffffe2
  pub open_to_read_and_write : over_sample (request 14 2 2 (u32 2 ++ zeros 4))
      ≡ refused 2 0xffffffe2
  pub open_to_execute : over_sample (request 14 2 2 (u32 3 ++ zeros 4)) ≡ refused 2 0xffffffe2
  pub open_with_flags : over_sample (request 14 2 2 (u32 0x8800 ++ zeros 4))
      ≡ headed 2 32 ++ zeros 8 ++ u32 2 ++ zeros 4
  pub open_link : over_sample (request 14 2 5 (zeros 8)) ≡ refused 2 0xffffffea
  pub open_directory : over_sample (request 14 2 3 (zeros 8)) ≡ refused 2 0xffffffeb
  pub open_device : over_sample (request 14 2 6 (zeros 8)) ≡ refused 2 0xffffffea
  pub opendir : over_sample (request 27 2 3 (zeros 8)) ≡ headed 2 32 ++ zeros 16
  pub opendir_of_file : over_sample (request 27 2 2 (zeros 8)) ≡ refused 2 0xffffffec

-- a row of a directory, whose name and padding fill 8 bytes
abbrev pub dirent_row : ℕ → ℕ → ℕ → List ℕ → List ℕ
dirent_row ino off file_type name =
    u64 ino ++ u64 off ++ u32 (length name) ++ u32 file_type ++ name ++ zeros (8 - length name)

-- twelve requests, including the session's first and last
abbrev pub twelve_requests : List (List ℕ)
twelve_requests =
    init_request
    ∷ request 1 2 1 (codes "big" ++ zeros 1)
    ∷ request 15 3 2 (read_in 4096 4096)
    ∷ request 2 4 2 (u64 1)
    ∷ request 36 5 0 (zeros 8)
    ∷ request 16 6 2 (zeros 40)
    ∷ request 99 7 0 []
    ∷ request 5 8 5 []
    ∷ request 28 9 1 (read_in 0 4096)
    ∷ request 17 10 0 []
    ∷ request 38 11 0 []
    ∷ request 3 12 1 (zeros 16)
    ∷ []

-- their 1,531 bytes of replies
pub record TwelveRequests : Type 0 where
  pub replies_are :
      replies sample_stack Fresh twelve_requests
      ≡ init_reply
      ++ over_sample (request 1 2 1 (codes "big" ++ zeros 1))
      ++ headed 3 920 ++ drop 4096 (counted 5000 0)
      ++ refused 6 0xffffffe2
      ++ refused 7 0xffffffda
      ++ headed 8 19 ++ codes "d/x"
      ++ headed 9 208 ++ dirent_row 1 1 4 (codes ".") ++ dirent_row 1 2 4 (codes "..")
      ++ dirent_row 2 3 8 (codes "big") ++ dirent_row 3 4 4 (codes "d")
      ++ dirent_row 5 5 10 (codes "l") ++ dirent_row 6 6 2 (codes "null")
      ++ headed 10 96 ++ u64 11 ++ zeros 16 ++ u64 6 ++ zeros 8 ++ u32 512 ++ u32 255 ++ u32 512
      ++ zeros 28
      ++ headed 11 16
      ++ refused 12 0xfffffffb
  pub sized : length (replies sample_stack Fresh twelve_requests) ≡ 1531

-- a session with EXPORT_SUPPORT that looks up, lists and forgets. The count of the BATCH_FORGET is
-- three items, two exist, and one of these has no node; the last FORGET has an incomplete body
abbrev pub looking_up : List (List ℕ)
looking_up =
    request 26 1 0 (init_in 7 31 131072 0x10)
    ∷ request 1 2 1 (codes "big" ++ zeros 1)
    ∷ request 1 3 3 itself
    ∷ request 1 4 3 two_dots
    ∷ request 1 5 2 itself
    ∷ request 1 6 2 two_dots
    ∷ request 44 7 1 (read_in 0 4096)
    ∷ request 42 8 0 (u32 3 ++ u32 0 ++ u64 2 ++ u64 2 ++ u64 9 ++ u64 1)
    ∷ request 2 9 6 (u64 5)
    ∷ request 2 10 3 (zeros 7)
    ∷ []

-- the balance of a node after them
abbrev pub held : ℕ → ℤ
held node = balance_after sample_stack Fresh looking_up node

-- the lookups that one request of a session gives and takes
abbrev pub moved_over_sample : Session → List ℕ → List Move
moved_over_sample s m = moves sample_stack s (asked m)

-- the balances that these requests leave, and the lookups that single ones give and take
pub record BalanceExamples : Type 0 where
  pub replies_sized : length (replies sample_stack Fresh looking_up) ≡ 1648
  pub balances :
      map held (1 ∷ 2 ∷ 3 ∷ 4 ∷ 5 ∷ 6 ∷ 7 ∷ 9 ∷ [])
      ≡ pos 1 ∷ pos 1 ∷ pos 2 ∷ pos 0 ∷ pos 1 ∷ negsuc 3 ∷ pos 0 ∷ pos 0 ∷ []
  pub rows_in_order :
      moved_over_sample (Ready false false) (request 44 7 1 (read_in 0 4096))
      ≡ record { node = 2; amount = pos 1 } ∷ record { node = 3; amount = pos 1 }
      ∷ record { node = 5; amount = pos 1 } ∷ record { node = 6; amount = pos 1 } ∷ []
  pub later_rows :
      moved_over_sample (Ready false false) (request 44 7 1 (read_in 2 320))
      ≡ record { node = 2; amount = pos 1 } ∷ record { node = 3; amount = pos 1 } ∷ []
  pub listed : moved_over_sample (Ready false false) (request 28 7 1 (read_in 0 4096)) ≡ []
  pub forgotten : moved_over_sample (Ready false false) (request 2 7 4 (u64 3))
      ≡ record { node = 4; amount = negsuc 2 } ∷ []
  pub counted_items :
      moved_over_sample (Ready false false)
      (request 42 8 0 (u32 1 ++ u32 0 ++ u64 2 ++ u64 2 ++ u64 3 ++ u64 1))
      ≡ record { node = 2; amount = negsuc 1 } ∷ []
  pub fresh : moved_over_sample Fresh (request 2 7 4 (u64 3)) ≡ []
