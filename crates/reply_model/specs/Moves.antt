-- linux/fuse.h, FUSE_LOOKUP, FUSE_READDIRPLUS, FUSE_FORGET and FUSE_BATCH_FORGET: how many lookups
-- of each node a client holds.
use Rattle.std.specs.Prelude.{ℕ, List, [], ◌∷◌, ◌==◌, Option, is_some, ℤ, pos, neg_ℤ, ◌+ℤ◌, if◌then◌else◌}
use Rattle.std.specs.List.{filter_map}
use Rattle.std.specs.Option.{option_map, option_map_or}
use Rattle.fuse_wire.specs.declared.forget.Forget.{Forget}
use Rattle.fuse_wire.specs.Requests.{NodeOp, SilentOp, Op, Asked, init, at_node, statfs, done, silent, forget, batch_forget, interrupt, modify, other, malformed}
use Rattle.stack_model.specs.Listing.{Stacked}
use Rattle.stack_model.specs.Numbers.{Place, node_of}
use Rattle.reply_model.specs.declared.session.Agreement.{Agreement}
use Rattle.reply_model.specs.declared.session.Session.{Session}
use Rattle.reply_model.specs.declared.moves.Move.{Move}
use Rattle.reply_model.specs.Sessions.{agreement_of}
use Rattle.reply_model.specs.Services.{service}
use Rattle.reply_model.specs.Refusals.{refusal}

-- the lookups given minus those taken, of one node
abbrev pub balance : ℕ → List Move → ℤ
balance node [] = pos 0
balance node (m ∷ moves) = (if m.node == node then m.amount else pos 0) +ℤ balance node moves

-- the lookups that are forgotten
abbrev pub forgotten : ℕ → SilentOp → List Forget
forgotten node (forget nlookup) = record { node = node; nlookup = nlookup } ∷ []
forgotten node (batch_forget items) = items
forgotten node interrupt = []

module _ (stack : Stacked) where
  -- forgotten lookups are taken back, if the number is in use
  abbrev pub take_back : Forget → Option Move
  take_back f =
      option_map (λ p. record { node = f.node; amount = neg_ℤ (pos f.nlookup) })
      (node_of stack.entries f.node)

  -- the lookups that a request about a node gives
  abbrev pub gives_at : Agreement → NodeOp → Place → List Move
  gives_at agreed op p = (service stack agreed op).gives p

  -- the lookups that a request that is not refused gives and takes, in order
  abbrev pub moved : Agreement → ℕ → Op → List Move
  moved agreed node (at_node op) =
      option_map_or (gives_at agreed op) (node_of stack.entries node) []
  moved agreed node (silent op) = filter_map take_back (forgotten node op)
  moved agreed node (init major minor readahead flags) = []
  moved agreed node statfs = []
  moved agreed node (done op) = []
  moved agreed node modify = []
  moved agreed node other = []
  moved agreed node (malformed opcode) = []

  -- the lookups that a request gives and takes; one that is refused, such as any but INIT in a
  -- fresh session, changes nothing
  abbrev pub moves : Session → Asked → List Move
  moves s q =
      if is_some (refusal stack s q.node q.op) then []
      else moved (agreement_of s) q.node q.op
