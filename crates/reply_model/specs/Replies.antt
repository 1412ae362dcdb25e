-- The reply to a request, as bytes.
use Rattle.std.specs.Prelude.{ℕ, List, [], ◌∷◌, length, Bool, true, false, nat_lt, if◌then◌else◌}
use Rattle.std.specs.Option.{option_map_or}
use Rattle.fuse_wire.specs.declared.opcode.TheConstants.{FORGET, BATCH_FORGET}
use Rattle.fuse_wire.specs.declared.reply.InitOut.TheVariants.{Version, Terms}
use Rattle.fuse_wire.specs.Requests.{NodeOp, Op, Asked, init, at_node, statfs, done, silent, modify, other, malformed, is_in}
use Rattle.fuse_wire.specs.Structures.{init_out, statfs_out}
use Rattle.fuse_wire.specs.Replies.{reply_with, error_reply}
use Rattle.stack_model.specs.Listing.{Stacked}
use Rattle.stack_model.specs.Numbers.{Place, nodes, node_of}
use Rattle.stack_model.specs.Attributes.{blocks_all, has_acls}
use Rattle.reply_model.specs.declared.session.Agreement.{Agreement}
use Rattle.reply_model.specs.declared.session.Session.{Session}
use Rattle.reply_model.specs.Sessions.{agreement_of}
use Rattle.reply_model.specs.Services.{service}
use Rattle.reply_model.specs.Refusals.{refusal}

-- the requests without a reply, whatever their body
abbrev pub is_silent : Op → Bool
is_silent (silent op) = true
is_silent (malformed opcode) = is_in opcode (FORGET ∷ BATCH_FORGET ∷ [])
is_silent (init major minor readahead flags) = false
is_silent (at_node op) = false
is_silent statfs = false
is_silent (done op) = false
is_silent modify = false
is_silent other = false

module _ (stack : Stacked) where
  -- the answer to a request about a node
  abbrev pub answer_at : Agreement → NodeOp → Place → List ℕ
  answer_at agreed op p = (service stack agreed op).answer p

  -- the answer to a request that is not refused
  abbrev pub answer : Agreement → ℕ → Op → List ℕ
  answer agreed node (init major minor readahead flags) =
      init_out
      (if nat_lt 7 major then Version
      else Terms agreed.lasting (has_acls stack) minor readahead flags)
  answer agreed node (at_node op) =
      option_map_or (answer_at agreed op) (node_of stack.entries node) []
  answer agreed node statfs = statfs_out (blocks_all stack.layers) (length (nodes stack.entries))
  answer agreed node (done op) = []
  answer agreed node (silent op) = []
  answer agreed node modify = []
  answer agreed node other = []
  answer agreed node (malformed opcode) = []

  -- the reply to a request, over the layers and the paths that they show
  abbrev pub reply : Session → Asked → List ℕ
  reply s q =
      if is_silent q.op then [] else
      option_map_or (error_reply q.unique) (refusal stack s q.node q.op)
      (reply_with q.unique (answer (agreement_of s) q.node q.op))
