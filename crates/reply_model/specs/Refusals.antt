-- Which requests are refused, and with which error: the first in this order that applies.
use Rattle.std.specs.Prelude.{ℕ, List, [], ◌∷◌, Bool, true, false, not, ◌||◌, ◌&&◌, ◌==◌, nat_lt, Option, Some, None, if◌then◌else◌}
use Rattle.std.specs.Option.{option_map_or}
use Rattle.fuse_wire.specs.declared.errno.Errno.{Errno}
use Rattle.fuse_wire.specs.declared.errno.Errno.TheVariants.{EIO, EINVAL, EROFS, ENOSYS, EPROTO, ESTALE}
use Rattle.fuse_wire.specs.declared.opcode.TheConstants.{INIT, GETXATTR, LISTXATTR}
use Rattle.fuse_wire.specs.Requests.{NodeOp, DoneOp, Op, init, at_node, getxattr, listxattr, statfs, done, release, fsync, flush, releasedir, fsyncdir, destroy, silent, modify, other, malformed, is_in}
use Rattle.stack_model.specs.Listing.{Stacked}
use Rattle.stack_model.specs.Numbers.{Place, node_of}
use Rattle.stack_model.specs.Attributes.{kind_at, has_xattrs}
use Rattle.reply_model.specs.declared.session.Agreement.{Agreement}
use Rattle.reply_model.specs.declared.session.Session.{Session}
use Rattle.reply_model.specs.Sessions.{is_spoken, is_fresh, agreement_of}
use Rattle.reply_model.specs.Services.{refuse_if, service}

-- the first of the refusals
abbrev pub first_refusal : List (Option Errno) → Option Errno
first_refusal [] = None
first_refusal (Some errno ∷ rest) = Some errno
first_refusal (None ∷ rest) = first_refusal rest

-- an INIT, even if it is too short
abbrev pub is_init : Op → Bool
is_init (init major minor readahead flags) = true
is_init (malformed opcode) = opcode == INIT
is_init _ = false

-- a fresh session answers only INIT, a ready one anything else
abbrev pub refused_by_session : Bool → Op → Option Errno
refused_by_session fresh op = refuse_if (if fresh then not (is_init op) else is_init op) EIO

-- in a lasting session FLUSH gets ENOSYS, and a client then sends no more of them
abbrev pub refused_when_done : Agreement → DoneOp → Option Errno
refused_when_done agreed flush = refuse_if agreed.lasting ENOSYS
refused_when_done agreed release = None
refused_when_done agreed fsync = None
refused_when_done agreed releasedir = None
refused_when_done agreed fsyncdir = None
refused_when_done agreed destroy = None

-- a request for extended attributes, even if it is malformed
abbrev pub asks_xattrs : Op → Bool
asks_xattrs (at_node (getxattr size name)) = true
asks_xattrs (at_node (listxattr size)) = true
asks_xattrs (malformed opcode) = is_in opcode (GETXATTR ∷ LISTXATTR ∷ [])
asks_xattrs _ = false

module _ (stack : Stacked) where
  -- extended attributes are not served if no node has one, whatever the node or name: a client that
  -- gets this answer asks for no others
  abbrev pub is_unserved : Op → Bool
  is_unserved op = asks_xattrs op && not (has_xattrs stack)

  -- a request at a node: its kind, and then the arguments
  abbrev pub refused_at : Agreement → NodeOp → Place → Option Errno
  refused_at agreed op p =
      let asked = service stack agreed op in
      first_refusal (asked.by_kind (kind_at stack.layers p) ∷ asked.by_arguments p ∷ [])

  -- requests that would change the tree, that are not supported, or that are malformed; unsupported
  -- versions, except that a client of a later major version gets the version; numbers that are not
  -- in use, and what is refused at their node
  abbrev pub refused_by_op : Agreement → ℕ → Op → Option Errno
  refused_by_op agreed node modify = Some EROFS
  refused_by_op agreed node other = Some ENOSYS
  refused_by_op agreed node (malformed opcode) = Some EINVAL
  refused_by_op agreed node (init major minor readahead flags) =
      refuse_if (not (nat_lt 7 major || is_spoken major minor)) EPROTO
  refused_by_op agreed node (at_node op) =
      option_map_or (refused_at agreed op) (node_of stack.entries node) (Some ESTALE)
  refused_by_op agreed node statfs = None
  refused_by_op agreed node (done op) = refused_when_done agreed op
  refused_by_op agreed node (silent op) = None

  -- the same, after the check that extended attributes are served
  abbrev pub refused_by_itself : Agreement → ℕ → Op → Option Errno
  refused_by_itself agreed node op =
      if is_unserved op then Some ENOSYS else refused_by_op agreed node op

  -- the same for any request: whether the session is fresh comes before all else
  abbrev pub refusal_in : Bool → Agreement → ℕ → Op → Option Errno
  refusal_in fresh agreed node op =
      first_refusal (refused_by_session fresh op ∷ refused_by_itself agreed node op ∷ [])

  -- the refusal of a request in a session
  abbrev pub refusal : Session → ℕ → Op → Option Errno
  refusal s node op = refusal_in (is_fresh s) (agreement_of s) node op
