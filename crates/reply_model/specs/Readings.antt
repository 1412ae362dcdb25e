-- pread(2): what the data of replies are read from, at the place of a file in its image.
use Rattle.std.specs.Prelude.{ℕ, ◌+◌, ◌<◌, List, [], ◌∷◌, length, slice_get, slice_index, Option, None, ⊤}
use Rattle.std.specs.Option.{option_map, option_and_then}
use Rattle.devices.specs.Sources.{Source, Shows}
use Rattle.devices.specs.Seal.{Seal}
use Rattle.devices.specs.Vouched.{VouchesAt}
use Rattle.fuse_wire.specs.Requests.{NodeOp, Op, Asked, at_node, read}
use Rattle.fuse_wire.specs.Told.{Reading, IsTold, IsRight}
use Rattle.stack_model.specs.Listing.{Stacked}
use Rattle.stack_model.specs.Numbers.{Place, node_of}
use Rattle.stack_model.specs.Attributes.{data_start}
use Rattle.reply_model.specs.declared.session.Session.{Session}
use Rattle.reply_model.specs.Replies.{reply}

-- a stack, and what the data of its layers are read from, lowest first; data of a layer without a
-- source are held
pub record Sourced : Type 0 where
  pub stack : Stacked
  pub sources : List Source

-- the same, from its parts
abbrev pub sourced : Stacked → List Source → Sourced
sourced stack sources = record { stack = stack; sources = sources }

-- a stack whose layers are all held
abbrev pub in_memory : Stacked → Sourced
in_memory stack = sourced stack []

module _ (by : Sourced) where
  -- data from an offset on, of the file at a place, are read from its layer's source
  abbrev pub data_reading : ℕ → Place → Option Reading
  data_reading offset p =
      option_map
      (λ source. record { source = source; place = data_start by.stack.layers p + offset })
      (slice_get by.sources p.0)

  -- what the data of the answer to a request about the node at a place are read from; only a READ
  -- reads any
  abbrev pub reading_at : NodeOp → Place → Option Reading
  reading_at (read offset size) p = data_reading offset p
  reading_at _ p = None

  -- the same for a request about the node with this number
  abbrev pub reading_in : ℕ → Op → Option Reading
  reading_in node (at_node op) =
      option_and_then (reading_at op) (node_of by.stack.entries node)
  reading_in node _ = None

-- what the data of the reply to a request are read from, if they are
abbrev pub reading_from : Stacked → List Source → Asked → Option Reading
reading_from stack [] q = None
reading_from stack (source ∷ sources) q =
    reading_in (sourced stack (source ∷ sources)) q.node q.op

-- the same, over a stack with its sources
abbrev pub reading_of : Sourced → Asked → Option Reading
reading_of by q = reading_from by.stack by.sources q

-- these bytes are a possible reply to a request in a session
abbrev pub IsReplyOver : Sourced → Session → Asked → List ℕ → Type 0
IsReplyOver by s q bytes = IsTold (reading_of by q) q.unique (reply by.stack s q) bytes

-- each of these sources shows the bytes at its position
abbrev pub AreShown : List Source → List (List ℕ) → Type 0
AreShown [] [] = ⊤
AreShown (source ∷ sources) (xs ∷ images) = Shows source xs × AreShown sources images
AreShown [] (xs ∷ images) = ⊥
AreShown (source ∷ sources) [] = ⊥

-- these bytes are the defined reply to a request; or the reply with EIO, if its data are read from
-- a source that may lack them
abbrev pub IsRightOver : Sourced → List ℕ → Asked → List ℕ → Type 0
IsRightOver by defined q bytes = IsRight (reading_of by q) q.unique defined bytes

-- each of these bytes, from a place on, is in a block for which the digest vouches
pub record AreVouched (seal : Seal) (place : ℕ) (bytes : List ℕ) : Type 0 where
  pub each : (k : ℕ) → k < length bytes
      → VouchesAt seal.algorithm seal.hash seal.size seal.digest (place + k) (slice_index bytes k)
