-- Worked examples of lasting streams: requests written out, and the answers to them, over the
-- images of `Examples`.
use Rattle.std.specs.Prelude.{◌≡◌, ℕ, pos, List, [], ◌∷◌, ◌++◌, length, map, take, drop, replicate, Bool, true, false, codes}
use Rattle.fuse_wire.specs.declared.errno.Errno.TheVariants.{ENOENT, ENAMETOOLONG}
use Rattle.fuse_wire.specs.Requests.{init, done, destroy, asked, at_node, lookup}
use Rattle.fuse_wire.specs.Structures.{u32, zeros, negative_entry_out}
use Rattle.fuse_wire.specs.Replies.{reply_with, error_reply}
use Rattle.reply_model.specs.declared.session.Session.TheVariants.{Fresh, Ready, LastingFresh, LastingReady}
use Rattle.reply_model.specs.Sessions.{session_after, agreement_of}
use Rattle.reply_model.specs.Lasting.{LastsAs}
use Rattle.reply_model.specs.Replies.{reply}
use Rattle.reply_model.specs.Streams.{replies, balance_after}
use Rattle.reply_model.specs.Examples.{dump, sample_stack, request, init_in, refused, headed, over_empty, over_sample, over_exported, init_reply, older_init_reply, version_reply, newer_init_reply, x_entry_reply, itself, two_dots, twelve_requests, looking_up, held, moved_over_sample}

-- a ready session whose client sent EXPORT_SUPPORT, NO_OPEN_SUPPORT, NO_OPENDIR_SUPPORT or not
abbrev pub over_lasting : Bool → Bool → Bool → List ℕ → List ℕ
over_lasting export no_open no_opendir m =
    reply sample_stack (LastingReady export false no_open no_opendir) (asked m)

-- INIT 7.39 of 104 bytes, as Linux 6 sends it, with all flags
abbrev pub longer_init : List ℕ
longer_init = request 26 1 0 (init_in 7 39 2097152 0x73fffffb ++ zeros 48)

-- its lasting answer: flags 0x01c66011 and max_pages 256
abbrev pub longer_init_reply : List ℕ
longer_init_reply = dump (
    0x50000000 ∷ 0x00000000 ∷ 0x01000000 ∷ 0x00000000 ∷ 0x07000000 ∷ 0x1f000000 ∷ 0x00001000 ∷
    0x1160c601
    ∷ 0x0c000900 ∷ 0x00000200 ∷ 0x01000000 ∷ 0x00010000 ∷ []) ++ replicate 32 0

-- INIT of minor version 22 with NO_OPEN_SUPPORT gets this answer, in 24 bytes
abbrev pub older_lasting_reply : List ℕ
older_lasting_reply = dump (
    0x28000000 ∷ 0x00000000 ∷ 0x01000000 ∷ 0x00000000 ∷ 0x07000000 ∷ 0x1f000000 ∷ 0x00000200 ∷
    0x01000200
    ∷ 0x0c000900 ∷ 0x00000200 ∷ [])

-- the longer INIT in both kinds of sessions; one without flags that only a lasting session has gets
-- the same answer; minor versions 12 to 22, and versions that are refused
pub record LastingInitExamples : Type 0 where
  pub message : length longer_init ≡ 104
  pub usual : over_empty Fresh longer_init ≡ newer_init_reply
  pub lasting : over_empty LastingFresh longer_init ≡ longer_init_reply
  pub few_flags : over_empty LastingFresh (request 26 1 0 (init_in 7 31 131072 0x6001))
      ≡ init_reply
  pub minor_22 : over_empty LastingFresh (request 26 1 0 (init_in 7 22 131072 0x1))
      ≡ older_init_reply
  pub minor_22_no_open : over_empty LastingFresh (request 26 1 0 (init_in 7 22 131072 0x20001))
      ≡ older_lasting_reply
  pub every_flag :
      take 4 (drop 28 (over_empty LastingFresh (request 26 1 0 (init_in 7 31 0 0xffffffff))))
      ≡ u32 0x1c66011
  pub minor_12 : length (over_empty LastingFresh (request 26 1 0 (init_in 7 12 131072 0x1))) ≡ 40
  pub minor_11 : over_empty LastingFresh (request 26 1 0 (init_in 7 11 131072 0x1))
      ≡ refused 1 0xffffffb9
  pub later_major : over_empty LastingFresh (request 26 1 0 (init_in 8 0 0 0)) ≡ version_reply
  pub short : over_empty LastingFresh (request 26 1 0 (zeros 15)) ≡ refused 1 0xffffffea
  pub not_begun : over_empty LastingFresh (request 3 2 1 (zeros 16)) ≡ refused 2 0xfffffffb
  pub begun_twice : over_lasting false false false longer_init ≡ refused 1 0xfffffffb

-- which flags a lasting session remembers, and that it ends as a lasting one
pub record LastingSessionExamples : Type 0 where
  pub no_flags : session_after LastingFresh (init 7 31 131072 0x6001)
      ≡ LastingReady false false false false
  pub export : session_after LastingFresh (init 7 12 0 0x10) ≡ LastingReady true false false false
  pub no_open : session_after LastingFresh (init 7 31 0 0x20000)
      ≡ LastingReady false false true false
  pub acls : session_after LastingFresh (init 7 31 0 0x100000) ≡ LastingReady false true false false
  pub no_opendir : session_after LastingFresh (init 7 31 0 0x1000000)
      ≡ LastingReady false false false true
  pub all_flags : session_after LastingFresh (init 7 39 0 0x73fffffb)
      ≡ LastingReady true true true true
  pub other_flags : session_after LastingFresh (init 7 31 0 0xfeedffef)
      ≡ LastingReady false false false false
  pub usually : session_after Fresh (init 7 39 0 0x73fffffb) ≡ Ready true true
  pub minor_11 : session_after LastingFresh (init 7 11 0 0x10) ≡ LastingFresh
  pub major_8 : session_after LastingFresh (init 8 31 0 0x10) ≡ LastingFresh
  pub begun_again : session_after (LastingReady true true true true) (init 7 31 0 0)
      ≡ LastingReady true true true true
  pub destroyed : session_after (LastingReady true true true true) (done destroy) ≡ LastingFresh
  pub destroyed_fresh : session_after LastingFresh (done destroy) ≡ LastingFresh

-- an entry of no node: entry_valid is an hour, and all else 0
abbrev pub no_entry_reply : List ℕ
no_entry_reply =
    headed 2 144 ++ replicate 16 0 ++ dump (0x100e0000 ∷ 0x00000000 ∷ []) ++ replicate 104 0

-- a name without an entry, only in a directory, unless something else refuses it
pub record LastingLookupExamples : Type 0 where
  pub entry : over_lasting false false false (request 1 10 3 (codes "x" ++ zeros 1))
      ≡ x_entry_reply
  pub missing : over_lasting false false false (request 1 2 1 (codes "x" ++ zeros 1))
      ≡ no_entry_reply
  pub marker : over_lasting false false false (request 1 2 1 (codes ".wh.x" ++ zeros 1))
      ≡ no_entry_reply
  pub long_name : over_lasting false false false (request 1 2 1 (replicate 255 0x71 ++ zeros 1))
      ≡ no_entry_reply
  pub too_long : over_lasting false false false (request 1 2 1 (replicate 256 0x71 ++ zeros 1))
      ≡ refused 2 0xffffffdc
  pub in_file : over_lasting false false false (request 1 2 2 (codes "x" ++ zeros 1))
      ≡ refused 2 0xffffffec
  pub of_no_node : over_lasting false false false (request 1 2 7 (codes "x" ++ zeros 1))
      ≡ refused 2 0xffffff8c
  pub unended : over_lasting false false false (request 1 2 1 (codes "x")) ≡ refused 2 0xffffffea
  pub upper : over_lasting false false false (request 1 2 1 two_dots) ≡ no_entry_reply
  pub exported_upper : over_lasting true false false (request 1 2 3 two_dots)
      ≡ over_exported (request 1 2 1 itself)
  pub exported_file : over_lasting true false false (request 1 2 2 itself)
      ≡ over_sample (request 1 2 1 (codes "big" ++ zeros 1))
  pub exported_missing : over_lasting true false false (request 1 2 1 (codes "..." ++ zeros 1))
      ≡ no_entry_reply

-- OPEN and OPENDIR with the client's flag and without it; each depends on its own flag
pub record LastingOpenExamples : Type 0 where
  pub open_file : over_lasting true false true (request 14 2 2 (zeros 8))
      ≡ headed 2 32 ++ zeros 8 ++ u32 2 ++ zeros 4
  pub need_not_open : over_lasting false true false (request 14 2 2 (zeros 8))
      ≡ refused 2 0xffffffda
  pub open_to_write : over_lasting false true false (request 14 2 2 (u32 1 ++ zeros 4))
      ≡ refused 2 0xffffffe2
  pub open_directory : over_lasting false true false (request 14 2 3 (zeros 8))
      ≡ refused 2 0xffffffeb
  pub open_link : over_lasting false true false (request 14 2 5 (zeros 8)) ≡ refused 2 0xffffffea
  pub open_no_node : over_lasting false true false (request 14 2 7 (zeros 8))
      ≡ refused 2 0xffffff8c
  pub opendir : over_lasting true true false (request 27 2 3 (zeros 8))
      ≡ headed 2 32 ++ zeros 8 ++ u32 10 ++ zeros 4
  pub need_not_opendir : over_lasting false false true (request 27 2 3 (zeros 8))
      ≡ refused 2 0xffffffda
  pub opendir_of_file : over_lasting false false true (request 27 2 2 (zeros 8))
      ≡ refused 2 0xffffffec
  pub opendir_of_no_node : over_lasting false false true (request 27 2 7 (zeros 8))
      ≡ refused 2 0xffffff8c

-- FLUSH, whatever its body and node, after the session has begun; and the other replies
pub record LastingFlushExamples : Type 0 where
  pub flush : over_lasting false false false (request 25 2 2 (zeros 24)) ≡ refused 2 0xffffffda
  pub no_body : over_lasting false false false (request 25 2 99 []) ≡ refused 2 0xffffffda
  pub usually : over_sample (request 25 2 2 (zeros 24)) ≡ headed 2 16
  pub not_begun : over_empty LastingFresh (request 25 2 1 (zeros 24)) ≡ refused 2 0xfffffffb
  pub release : over_lasting false false false (request 18 2 2 (zeros 24)) ≡ headed 2 16
  pub releasedir : over_lasting false false false (request 29 2 3 (zeros 24)) ≡ headed 2 16
  pub fsync : over_lasting false false false (request 20 2 2 (zeros 16)) ≡ headed 2 16
  pub fsyncdir : over_lasting false false false (request 30 2 3 (zeros 16)) ≡ headed 2 16

-- a LOOKUP that is refused with ENAMETOOLONG, and one that finds no entry: the first reply has to
-- stay, and the second has to become an entry of no node
pub record LastingStayExamples : Type 0 where
  pub too_long : (lasting : List ℕ)
      → LastsAs false (agreement_of (LastingReady false false false false)) 2
      (at_node (lookup (codes "x"))) (error_reply 2 ENAMETOOLONG) lasting
      → lasting ≡ error_reply 2 ENAMETOOLONG
  pub missing : (lasting : List ℕ)
      → LastsAs false (agreement_of (LastingReady false false false false)) 2
      (at_node (lookup (codes "x"))) (error_reply 2 ENOENT) lasting
      → lasting ≡ reply_with 2 negative_entry_out

-- a session whose client need not send OPEN, and after DESTROY one whose client need not send
-- OPENDIR
abbrev pub two_sessions : List (List ℕ)
two_sessions =
    request 26 1 0 (init_in 7 31 131072 0x20000)
    ∷ request 14 2 2 (zeros 8)
    ∷ request 27 3 3 (zeros 8)
    ∷ request 38 4 0 []
    ∷ request 14 5 2 (zeros 8)
    ∷ request 26 6 0 (init_in 7 31 131072 0x1000000)
    ∷ request 14 7 2 (zeros 8)
    ∷ request 27 8 3 (zeros 8)
    ∷ []

-- the answer to an INIT of theirs, with these flags
abbrev pub begun_with : ℕ → ℕ → List ℕ
begun_with unique flags =
    headed unique 80 ++ u32 7 ++ u32 31 ++ u32 131072 ++ u32 flags
    ++ dump (0x0c000900 ∷ 0x00000200 ∷ 0x01000000 ∷ 0x00000000 ∷ []) ++ replicate 32 0

-- entire streams: no reply to the twelve requests differs; a name without an entry gives no lookup
pub record LastingStreamExamples : Type 0 where
  pub twelve :
      replies sample_stack LastingFresh twelve_requests
      ≡ replies sample_stack Fresh twelve_requests
  pub sized : length (replies sample_stack LastingFresh twelve_requests)
      ≡ 1531
  pub other_flags :
      replies sample_stack LastingFresh two_sessions
      ≡ begun_with 1 0x20000
      ++ refused 2 0xffffffda
      ++ headed 3 32 ++ zeros 8 ++ u32 10 ++ zeros 4
      ++ headed 4 16
      ++ refused 5 0xfffffffb
      ++ begun_with 6 0x1000000
      ++ headed 7 32 ++ zeros 8 ++ u32 2 ++ zeros 4
      ++ refused 8 0xffffffda
  pub found : moved_over_sample (LastingReady false false false false)
      (request 1 2 1 (codes "big" ++ zeros 1)) ≡ record { node = 2; amount = pos 1 } ∷ []
  pub missing : moved_over_sample (LastingReady false false false false)
      (request 1 2 1 (codes "x" ++ zeros 1)) ≡ []
  pub balances :
      map (balance_after sample_stack LastingFresh looking_up)
      (0 ∷ 1 ∷ 2 ∷ 3 ∷ 4 ∷ 5 ∷ 6 ∷ 7 ∷ [])
      ≡ map held (0 ∷ 1 ∷ 2 ∷ 3 ∷ 4 ∷ 5 ∷ 6 ∷ 7 ∷ [])
