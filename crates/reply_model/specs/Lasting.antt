-- linux/fuse.h, FUSE_NO_OPEN_SUPPORT, FUSE_NO_OPENDIR_SUPPORT, FUSE_CACHE_SYMLINKS and
-- FOPEN_CACHE_DIR: the replies to a lasting stream instead of the usual ones.
use Rattle.std.specs.Prelude.{◌≡◌, ◌≢◌, ℕ, ◌+◌, Bool, true, false, List, [], if◌then◌else◌}
use Rattle.fuse_wire.specs.declared.errno.Errno.TheVariants.{ENOENT, ENOSYS}
use Rattle.fuse_wire.specs.declared.flags.TheConstants.{FOPEN_KEEP_CACHE, FOPEN_CACHE_DIR}
use Rattle.fuse_wire.specs.declared.reply.InitOut.TheVariants.{Terms}
use Rattle.fuse_wire.specs.Requests.{Op, init, at_node, lookup, open_file, opendir, done, flush}
use Rattle.fuse_wire.specs.Structures.{init_out, negative_entry_out, open_out}
use Rattle.fuse_wire.specs.Replies.{reply_with, error_reply}
use Rattle.reply_model.specs.declared.session.Agreement.{Agreement}
use Rattle.reply_model.specs.declared.session.Session.{Session}
use Rattle.reply_model.specs.declared.session.Session.TheVariants.{Fresh, Ready, LastingFresh, LastingReady}

-- the usual session instead of a lasting one
abbrev pub usual_of : Session → Session
usual_of LastingFresh = Fresh
usual_of (LastingReady export acls no_open no_opendir) = Ready export acls
usual_of s = s

-- if the usual reply is the first of two, the lasting one is the second; otherwise they are the
-- same
pub record Becomes (from to usual lasting : List ℕ) : Type 0 where
  pub there : usual ≡ from → lasting ≡ to
  pub elsewhere : usual ≢ from → lasting ≡ usual

-- ENOSYS for a client that need not send such requests, otherwise the reply that it is opened, with
-- these flags
abbrev pub told_of_opening : Bool → ℕ → ℕ → List ℕ
told_of_opening need_not unique flags =
    if need_not then error_reply unique ENOSYS else reply_with unique (open_out flags)

-- the usual and the lasting reply to a request, over a tree with access control lists or without:
-- INIT is answered with other terms; a LOOKUP that finds no entry with an entry of no node; OPEN
-- and OPENDIR with ENOSYS if the client need not send them, or OPENDIR with other flags; and FLUSH
-- with ENOSYS. Every other reply is the same
abbrev pub LastsAs : Bool → Agreement → ℕ → Op → List ℕ → List ℕ → Type 0
LastsAs acls agreed unique (init major minor readahead flags) usual lasting =
    Becomes (reply_with unique (init_out (Terms false acls minor readahead flags)))
    (reply_with unique (init_out (Terms true acls minor readahead flags))) usual lasting
LastsAs acls agreed unique (at_node (lookup name)) usual lasting =
    Becomes (error_reply unique ENOENT) (reply_with unique negative_entry_out) usual lasting
LastsAs acls agreed unique (at_node (open_file flags)) usual lasting =
    Becomes (reply_with unique (open_out FOPEN_KEEP_CACHE))
    (told_of_opening agreed.no_open unique FOPEN_KEEP_CACHE) usual lasting
LastsAs acls agreed unique (at_node opendir) usual lasting =
    Becomes (reply_with unique (open_out 0))
    (told_of_opening agreed.no_opendir unique (FOPEN_KEEP_CACHE + FOPEN_CACHE_DIR)) usual lasting
LastsAs acls agreed unique (done flush) usual lasting =
    Becomes (reply_with unique []) (error_reply unique ENOSYS) usual lasting
LastsAs acls agreed unique _ usual lasting = lasting ≡ usual
