-- What the steps of serving a stream do.
use Rattle.std.specs.Prelude.{◌≡◌, ℕ, ◌+◌, ◌*◌, ◌^◌, ◌<◌, ◌≤◌, Bool, true, false, ℤ, pos, List, [], ◌++◌, length, map, replicate}
use Rattle.std.specs.List.{AllByRecursion}
use Rattle.fuse_wire.specs.Stream.{IsMessage, IsRest}
use Rattle.fuse_wire.specs.Requests.{asked}
use Rattle.reply_model.specs.declared.session.Session.{Session}
use Rattle.reply_model.specs.Streams.{AreReplies}
use Rattle.std.specs.Io.KnownBytes.{Appends}
use Rattle.devices.specs.declared.counts.Pushes.{Pushes}
use Rattle.devices.specs.Pushing.{HasFlushed}
use Rattle.devices.specs.States.{SinkState}
use Rattle.reply_model.specs.Balances.{AreWithin}
use Rattle.serve_loop.specs.Rounds.{Answering, IsReply, joined, AreAnswered}
use Rattle.serve_loop.specs.declared.stream_fault.StreamFault.{StreamFault}
use Rattle.serve_loop.specs.declared.stream_fault.StreamFault.TheVariants.{Write, Memory}
use Rattle.serve_loop.specs.declared.progress.Progress.{Progress}
use Rattle.serve_loop.specs.Buffers.{held_in, IsWithinBytes}
use Rattle.serve_loop.specs.Serving.{Begins}

-- how much of a stream is answered: the bytes not answered yet, the session, the place, the counts,
-- the balances
pub record ServingState : Type 0 where
  pub rest : List ℕ
  pub session : Session
  pub at : ℕ
  pub messages : ℕ
  pub written : ℕ
  pub balances : List ℤ

-- the same, for the state of the code
abbrev pub serving_state : {A : Type 0} → Progress A → ServingState
serving_state p = record {
  rest = held_in p.buffer;
  session = p.session;
  at = p.at;
  messages = p.messages;
  written = p.written;
  balances = p.balances.items;
}

-- no part of a stream that begins in this session is answered yet, and balances are kept for this
-- many nodes
abbrev pub beginning : Session → ℕ → ServingState
beginning first nodes = record {
  rest = [];
  session = first;
  at = 0;
  messages = 0;
  written = 0;
  balances = replicate nodes (pos 0);
}

-- the counts stay far below their types' limits: a stream has less than 2^57 bytes
pub record IsSmall (nodes : ℕ) (v : ServingState) : Type 0 where
  pub place : v.at + length v.rest ≤ 2 ^ 57
  pub count : v.messages ≤ v.at
  pub bytes : v.written ≤ 2 ^ 64 * v.at
  pub nodes_are : length v.balances ≡ nodes
  pub balanced : AreWithin (2 ^ 64 * v.at) v.balances

-- the code's buffer lies within its bytes, and its counts are small
pub record IsInOrder {A : Type 0} (nodes : ℕ) (p : Progress A) : Type 0 where
  pub range : IsWithinBytes p.buffer
  pub small : IsSmall nodes (serving_state p)

-- these messages were answered with these bytes
pub record Goes (by : Answering) (from to : ServingState) (messages : List (List ℕ))
    (put : List ℕ) : Type 0 where
  pub taken : from.rest ≡ joined messages ++ to.rest
  pub each : AllByRecursion IsMessage messages
  pub answered : AreAnswered by from.session messages to.session put
      (record { old = from.balances; new = to.balances })
  pub place : to.at ≡ from.at + length (joined messages)
  pub count : to.messages ≡ from.messages + length messages
  pub written : to.written ≡ from.written + length put

-- a round removes bytes, or no message is complete
abbrev pub GoesOn : Bool → ServingState → ServingState → Type 0
GoesOn true from to = length to.rest < length from.rest
GoesOn false from to = IsRest to.rest

-- how often the sink failed if answering stopped for this reason
abbrev pub sink_failures : StreamFault → ℕ
sink_failures Write = 1
sink_failures _ = 0

-- the sink failed, or memory was refused
abbrev pub IsHalt : StreamFault → Type 0
IsHalt Write = Unit {0}
IsHalt Memory = Unit {0}
IsHalt _ = ⊥

-- answering some messages stopped after a part of their replies was pushed
pub record Halts (by : Answering) (from : ServingState) (before after : Pushes)
    (fault : StreamFault) (put : List ℕ) : Type 0 where
  pub messages : List (List ℕ)
  pub rest : List ℕ
  pub halt : IsHalt fault
  pub taken : from.rest ≡ joined messages ++ rest
  pub each : AllByRecursion IsMessage messages
  pub replies : List ℕ
  pub are : AreReplies (IsReply by) from.session (map asked messages) replies
  pub told : Begins put replies
  pub failures : after.failures ≡ before.failures + sink_failures fault
  pub late : after.unflushed ≤ before.unflushed + length put

-- some messages were answered, and their replies were pushed
pub record Proceeds (by : Answering) (from to : ServingState) (old new : SinkState) : Type 0 where
  pub messages : List (List ℕ)
  pub put : List ℕ
  pub goes : Goes by from to messages put
  pub held : Appends old.held new.held put
  pub flushed : HasFlushed put old.counts new.counts

-- one round was answered and its replies were pushed, or no message was complete
abbrev pub Advances : Answering → ServingState → ServingState → SinkState → SinkState → Bool
    → Type 0
Advances by from to old new on = Proceeds by from to old new × GoesOn on from to

-- all complete messages were answered, and their replies were pushed
abbrev pub AdvancesToRest : Answering → ServingState → ServingState → SinkState → SinkState → Type 0
AdvancesToRest by from to old new = Proceeds by from to old new × IsRest to.rest

-- answering stopped, and the sink took a part of the replies
abbrev pub StopsShort : Answering → ServingState → SinkState → SinkState → StreamFault → Type 0
StopsShort by from old new fault =
    (put : List ℕ) × Appends old.held new.held put
    × Halts by from old.counts new.counts fault put
