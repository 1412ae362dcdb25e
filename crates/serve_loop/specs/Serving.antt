-- What serving a stream promises, whatever answers its requests.
use Rattle.std.specs.Prelude.{◌≡◌, ℕ, ◌+◌, ◌-◌, ◌*◌, ◌<◌, ◌≤◌, ◌^◌, List, [], ◌++◌, length, take, map, ℤ, Option, Some, Result, Ok, Err, IfOk, IfErr}
use Rattle.std.specs.Io.KnownBytes.{Appends, Consumes}
use Rattle.devices.specs.declared.limits.TheConstants.{MAX_TURNS, PULL_SIZE}
use Rattle.fuse_wire.specs.Stream.{IsUnfinished, IsBad, IsOpen, IsSplit}
use Rattle.fuse_wire.specs.Requests.{asked}
use Rattle.reply_model.specs.Streams.{AreReplies}
use Rattle.devices.specs.declared.counts.LastPull.{LastPull}
use Rattle.devices.specs.declared.counts.LastPull.TheVariants.{Bytes, End, Failure}
use Rattle.devices.specs.declared.counts.Pulls.{Pulls}
use Rattle.devices.specs.declared.counts.Pushes.{Pushes}
use Rattle.devices.specs.States.{Devices}
use Rattle.reply_model.specs.Balances.{balance_at}
use Rattle.reply_model.specs.declared.moves.Move.{Move}
use Rattle.reply_model.specs.Moves.{balance}
use Rattle.reply_model.specs.Streams.{moves_by}
use Rattle.serve_loop.specs.Rounds.{Answering, IsReply, joined}
use Rattle.serve_loop.specs.declared.stream_fault.StreamFault.{StreamFault}
use Rattle.serve_loop.specs.declared.stream_fault.StreamFault.TheVariants.{BadLength, CutOff, Read, Write, Turns, Memory}
use Rattle.serve_loop.specs.declared.done.Done.{Done}

-- no count of the devices can overflow in this many turns
pub record AreReady (turns : ℕ) (old : Devices) : Type 0 where
  pub few : turns ≤ MAX_TURNS
  pub pulls : old.source.counts.pulls < 2 ^ 63
  pub ends : old.source.counts.ends < 2 ^ 63
  pub source_failures : old.source.counts.failures < 2 ^ 63
  pub sink_failures : old.sink.counts.failures < 2 ^ 63

-- what one call did: the bytes pulled from the source, those pushed to the sink, and the old and
-- new counts of both
pub record Trace : Type 0 where
  pub got : List ℕ
  pub put : List ℕ
  pub source_before : Pulls
  pub source : Pulls
  pub sink_before : Pushes
  pub sink : Pushes

-- the same, from its parts
abbrev pub trace : List ℕ → List ℕ → Pulls → Pulls → Pushes → Pushes → Trace
trace got put source_before source sink_before sink = record {
  got = got;
  put = put;
  source_before = source_before;
  source = source;
  sink_before = sink_before;
  sink = sink;
}

-- a call pulled bytes from the source and pushed bytes to the sink, and this holds for what it did
abbrev pub Does : (Trace → Type 0) → Devices → Devices → Type 0
Does is old new =
    (got : List ℕ) × (put : List ℕ)
    × Consumes old.source.left new.source.left got
    × Appends old.sink.held new.sink.held put
    × is (trace got put old.source.counts new.source.counts old.sink.counts new.sink.counts)

-- all but the last n bytes
abbrev pub all_but : ℕ → List ℕ → List ℕ
all_but n bytes = take (length bytes - n) bytes

-- how many bytes a pull returned
abbrev pub last_size : Option LastPull → ℕ
last_size (Some (Bytes n)) = n
last_size _ = 0

-- the bytes that were pulled before the last pull
abbrev pub before : Trace → List ℕ
before t = all_but (last_size t.source.last) t.got

-- the bytes that were pushed, and have been flushed since
abbrev pub flushed_bytes : Trace → List ℕ
flushed_bytes t = all_but t.sink.unflushed t.put

-- whole begins with part
pub record Begins (part whole : List ℕ) : Type 0 where
  pub more : List ℕ
  pub is : whole ≡ part ++ more

-- these bytes are replies to the messages of a stream
abbrev pub AreRepliesTo : Answering → List (List ℕ) → List ℕ → Type 0
AreRepliesTo by messages bytes = AreReplies (IsReply by) by.first (map asked messages) bytes

-- these bytes are a prefix of replies to the first of the messages
pub record BeginReplies (by : Answering) (messages : List (List ℕ)) (bytes : List ℕ) : Type 0 where
  pub answered : List (List ℕ)
  pub later : List (List ℕ)
  pub messages_are : messages ≡ answered ++ later
  pub replies : List ℕ
  pub are : AreRepliesTo by answered replies
  pub begun : Begins bytes replies

-- these bytes begin with replies to all of the messages
pub record HaveReplies (by : Answering) (messages : List (List ℕ)) (bytes : List ℕ) : Type 0 where
  pub replies : List ℕ
  pub are : AreRepliesTo by messages replies
  pub begin : Begins replies bytes

-- what the messages of a stream move
abbrev pub moves_of : Answering → List (List ℕ) → List Move
moves_of by messages = moves_by by.moved by.first (map asked messages)

-- all replies were pushed, and flushed
pub record IsAllTold (by : Answering) (t : Trace) (messages : List (List ℕ)) : Type 0 where
  pub put : AreRepliesTo by messages t.put
  pub flushed_all : flushed_bytes t ≡ t.put

-- each node has what the moves give it, minus what they take; node n is at index n - 1
pub record AreBalances (moves : List Move) (nodes : ℕ) (balances : List ℤ) : Type 0 where
  pub same : length balances ≡ nodes
  pub each : (i : ℕ) → i < nodes → balance_at balances i ≡ balance (i + 1) moves

-- the stream was served to its end
pub record IsServed {A : Type 0} (by : Answering) (nodes : ℕ) (t : Trace) (messages : List (List ℕ))
    (rest : List ℕ) (done : Done A) : Type 0 where
  pub ended : t.source.last ≡ Some End
  pub all_read : rest ≡ []
  pub told : IsAllTold by t messages
  pub counted : done.messages ≡ length messages
  pub written : done.written ≡ length t.put
  pub balanced : AreBalances (moves_of by messages) nodes done.balances.items

-- why serving stopped, and where. Nothing more is known after Write or Memory than IsRun says of
-- every end: begun, that the bytes pushed are a prefix of the replies, and counted, that the sink
-- failed exactly if the fault is Write
abbrev pub IsStopped : Answering → ℕ → Trace → List (List ℕ) → List ℕ → StreamFault → Type 0
IsStopped by turns t messages rest (BadLength at len) =
    IsBad rest len × (at ≡ length (joined messages)) × IsAllTold by t messages
IsStopped by turns t messages rest (CutOff at) =
    (t.source.last ≡ Some End) × IsUnfinished rest × (at ≡ length (joined messages))
    × IsAllTold by t messages
IsStopped by turns t messages rest Read = (t.source.last ≡ Some Failure) × IsAllTold by t messages
IsStopped by turns t messages rest Turns =
    (t.source.pulls ≡ t.source_before.pulls + turns) × IsOpen rest × IsAllTold by t messages
IsStopped by turns t messages rest Write = Unit {0}
IsStopped by turns t messages rest Memory = Unit {0}

-- how often the source met its end
abbrev pub ends_met : {A : Type 0} → Result (Done A) StreamFault → ℕ
ends_met (Ok done) = 1
ends_met (Err (CutOff at)) = 1
ends_met (Err _) = 0

-- how often the source failed
abbrev pub read_failures : {A : Type 0} → Result (Done A) StreamFault → ℕ
read_failures (Err Read) = 1
read_failures _ = 0

-- how often the sink failed
abbrev pub write_failures : {A : Type 0} → Result (Done A) StreamFault → ℕ
write_failures (Err Write) = 1
write_failures _ = 0

-- each fault is reported exactly if its device met it; no more pulls than turns, no more bytes than
-- pulls
pub record IsCounted {A : Type 0} (turns : ℕ) (t : Trace)
    (result : Result (Done A) StreamFault) : Type 0 where
  pub pulls : t.source.pulls ≤ t.source_before.pulls + turns
  pub size : length t.got ≤ PULL_SIZE * (t.source.pulls - t.source_before.pulls)
  pub ends : t.source.ends ≡ t.source_before.ends + ends_met result
  pub read : t.source.failures ≡ t.source_before.failures + read_failures result
  pub write : t.sink.failures ≡ t.sink_before.failures + write_failures result

-- what was pulled before the last pull has no bad length, and all replies to its messages were
-- flushed
pub record IsPrompt (by : Answering) (t : Trace) : Type 0 where
  pub messages : List (List ℕ)
  pub rest : List ℕ
  pub split : IsSplit (before t) messages rest
  pub good : IsOpen rest
  pub told : HaveReplies by messages (flushed_bytes t)

-- a stream was served: the bytes written are a prefix of the replies, at every end, and all of them
-- if nothing prevented it
pub record IsRun {A : Type 0} (by : Answering) (nodes turns : ℕ) (t : Trace)
    (result : Result (Done A) StreamFault) : Type 0 where
  pub messages : List (List ℕ)
  pub rest : List ℕ
  pub split : IsSplit t.got messages rest
  pub begun : BeginReplies by messages t.put
  pub served : IfOk result (IsServed by nodes t messages rest)
  pub stopped : IfErr result (IsStopped by turns t messages rest)
  pub prompt : IsPrompt by t
  pub counted : IsCounted turns t result
