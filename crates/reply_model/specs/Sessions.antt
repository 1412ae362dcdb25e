-- linux/fuse.h, FUSE_INIT and FUSE_DESTROY: when a session begins and ends, and what client and
-- server agree on in it.
use Rattle.std.specs.Prelude.{ℕ, Bool, true, false, ◌&&◌, ◌==◌, nat_le, if◌then◌else◌}
use Rattle.fuse_wire.specs.Requests.{Op, init, done, destroy}
use Rattle.fuse_wire.specs.Structures.{has_export, has_acl, has_no_open, has_no_opendir}
use Rattle.reply_model.specs.declared.session.Agreement.{Agreement}
use Rattle.reply_model.specs.declared.session.Session.{Session}
use Rattle.reply_model.specs.declared.session.Session.TheVariants.{Fresh, Ready, LastingFresh, LastingReady}

-- the versions that begin a session
abbrev pub is_spoken : ℕ → ℕ → Bool
is_spoken major minor = major == 7 && nat_le 12 minor

-- the session after a request; a lasting stream stays lasting
abbrev pub session_after : Session → Op → Session
session_after Fresh (init major minor readahead flags) =
    if is_spoken major minor then Ready (has_export flags) (has_acl flags) else Fresh
session_after LastingFresh (init major minor readahead flags) =
    if is_spoken major minor
    then LastingReady (has_export flags) (has_acl flags) (has_no_open flags) (has_no_opendir flags)
    else LastingFresh
session_after (Ready export acls) (done destroy) = Fresh
session_after (LastingReady export acls no_open no_opendir) (done destroy) = LastingFresh
session_after s _ = s

-- the session has not begun
abbrev pub is_fresh : Session → Bool
is_fresh Fresh = true
is_fresh LastingFresh = true
is_fresh (Ready export acls) = false
is_fresh (LastingReady export acls no_open no_opendir) = false

-- what is agreed on in it: nothing before INIT, and only EXPORT_SUPPORT and POSIX_ACL if the stream
-- is not lasting
abbrev pub agreement_of : Session → Agreement
agreement_of Fresh =
    record { lasting = false; export = false; acls = false; no_open = false; no_opendir = false }
agreement_of (Ready export acls) =
    record { lasting = false; export = export; acls = acls; no_open = false; no_opendir = false }
agreement_of LastingFresh =
    record { lasting = true; export = false; acls = false; no_open = false; no_opendir = false }
agreement_of (LastingReady export acls no_open no_opendir) = record {
  lasting = true;
  export = export;
  acls = acls;
  no_open = no_open;
  no_opendir = no_opendir;
}
