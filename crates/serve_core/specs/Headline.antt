-- What serving a stream of requests over images promises: prepare, then run.
use Rattle.std.specs.Prelude.{◌≡◌, ℕ, ◌⊎◌, List, length, map, Result, Err, OnOk}
use Rattle.std.specs.Io.KnownBytes.{IsAtEnd}
use Rattle.devices.specs.Sources.{Source}
use Rattle.devices.specs.States.{Devices}
use Rattle.fuse_wire.specs.Requests.{asked}
use Rattle.fuse_answer.specs.Puts.{sourced_by}
use Rattle.romfs_format.specs.declared.rule.Profile.{Profile}
use Rattle.stack_model.specs.declared.owner.Owner.{Owner}
use Rattle.stack_model.specs.declared.owner.TheConstants.Owner.{ROOT}
use Rattle.stack_model.specs.Numbers.{nodes}
use Rattle.stack_model.specs.Listing.{Stacked}
use Rattle.stack_prepare.specs.declared.refusal.Refusal.{Refusal}
use Rattle.stack_prepare.specs.Layers.{AreRefused}
use Rattle.stack_prepare.specs.Preparing.{AreStacked}
use Rattle.reply_model.specs.declared.session.Session.{Session}
use Rattle.reply_model.specs.Readings.{Sourced, in_memory, IsRightOver}
use Rattle.reply_model.specs.Replies.{reply}
use Rattle.reply_model.specs.Streams.{AreReplies, replies}
use Rattle.reply_pool.specs.Answers.{answering, answering_from}
use Rattle.serve_loop.specs.declared.done.Done.{Done}
use Rattle.serve_loop.specs.declared.stream_fault.StreamFault.{StreamFault}
use Rattle.serve_loop.specs.declared.stream_fault.StreamFault.TheVariants as faults
use Rattle.serve_loop.specs.Serving.{AreBalances, Trace, Does, IsRun, moves_of}
use Rattle.serve_loop.specs.Laws.{HasServed}
use Rattle.serve_core.specs.declared.terms.Counted.{Counted}
use Rattle.serve_core.specs.declared.terms.Counted.TheVariants.{AllNodes, NoNodes}
use Rattle.serve_core.specs.declared.running.Serving.{Serving}
use Rattle.serve_core.specs.declared.stop.Stop.{Stop}
use Rattle.serve_core.specs.declared.stop.Stop.TheVariants.{Turns}
use Rattle.serve_core.specs.Stops.{IsRefusal, told}

-- ---- run

-- the bounds of serving a stream: at most this many turns, and lookups are counted for this many of
-- the first nodes
pub record Bounds : Type 0 where
  pub turns : ℕ
  pub counted : ℕ

-- the same, from its parts
abbrev pub bounds : ℕ → ℕ → Bounds
bounds turns counted = record { turns = turns; counted = counted }

-- lookups of all nodes are counted
abbrev pub counting_all : Sourced → ℕ → Bounds
counting_all by turns = bounds turns (length (nodes by.stack.entries))

-- how many of the first nodes have their lookups counted
abbrev pub nodes_counted : Counted → Stacked → ℕ
nodes_counted AllNodes stack = length (nodes stack.entries)
nodes_counted NoNodes stack = 0

-- the bounds over a stack, with lookups of these nodes counted
abbrev pub bounds_over : ℕ → Counted → Sourced → Bounds
bounds_over turns counted by = bounds turns (nodes_counted counted by.stack)

-- those on the terms of a serving, over its table
abbrev pub bounds_of : {A D G : Type 0} → (D → Source) → Serving A D G → Bounds
bounds_of source serving =
    bounds_over serving.terms.turns serving.terms.counted (sourced_by source serving.served)

-- a stream that begins in this session was served over a stack of layers and the sources of their
-- data, each message by the definitions of FUSE over the visible paths, and its end is reported
abbrev pub IsRunWithin : {A : Type 0} → Session → Sourced → Bounds → Trace
    → Result (Done A) StreamFault → Type 0
IsRunWithin first by within t result =
    IsRun (answering_from first by) within.counted within.turns t result

-- it was served so between a source and a sink; after `Ok` nothing is left of the source, and with
-- no turns the result is `Turns`
pub record RunsWithin {A : Type 0} (first : Session) (by : Sourced) (within : Bounds)
    (result : Result (Done A) StreamFault) (old new : Devices) : Type 0 where
  pub run : Does (λ t. IsRunWithin first by within t result) old new
  pub end : OnOk result (IsAtEnd new.source.left)
  pub at_once : within.turns ≡ 0 → result ≡ Err faults.Turns

-- the same over layers that are all held, with lookups of all nodes counted, and the result is that
-- of serving
pub record RunsBetween {A : Type 0} (first : Session) (stack : Stacked) (turns : ℕ)
    (result : Result (Done A) Stop) (old new : Devices) : Type 0 where
  pub ended : Result (Done A) StreamFault
  pub result_is : result ≡ told ended
  pub runs : RunsWithin first (in_memory stack) (counting_all (in_memory stack) turns) ended old new

-- ---- serve: prepare, then run

-- what a call must serve: images by the rules of a profile, with this owner of everything without a
-- row of attributes, and over them a stream that begins in this session, in at most this many turns
pub record Call : Type 0 where
  pub profile : Profile
  pub owner : Owner
  pub images : List (List ℕ)
  pub first : Session
  pub turns : ℕ

-- the same, from its parts
abbrev pub owned_call : Profile → Owner → List (List ℕ) → Session → ℕ → Call
owned_call profile owner images first turns =
    record { profile = profile; owner = owner; images = images; first = first; turns = turns }

-- with the superuser as that owner
abbrev pub call : Profile → List (List ℕ) → Session → ℕ → Call
call profile images first turns = owned_call profile ROOT images first turns

-- the images are good, and the stream was served over their stack
pub record IsServedOver {A : Type 0} (call : Call) (result : Result (Done A) Stop)
    (old new : Devices) : Type 0 where
  pub stack : Stacked
  pub stacked : AreStacked call.profile call.owner call.images stack
  pub runs : RunsBetween call.first stack call.turns result old new

-- the images are refused, or memory ran out before their table was complete, and no device was
-- called
pub record IsNotBegun {A : Type 0} (call : Call) (result : Result (Done A) Stop)
    (old new : Devices) : Type 0 where
  pub stop : Stop
  pub result_is : result ≡ Err stop
  pub refused : IsRefusal call.profile call.images stop
  pub kept : new ≡ old

-- the stream was served over the images, or not begun
abbrev pub ServesBetween : {A : Type 0} → Call → Result (Done A) Stop → Devices → Devices → Type 0
ServesBetween call result old new =
    IsServedOver call result old new ⊎ IsNotBegun call result old new

-- ---- what it means

-- a stream was served to its end, and the bytes written are the replies that are defined over a
-- stack of layers to all of its messages, one after another
pub record HasServedOver {A : Type 0} (first : Session) (stack : Stacked) (done : Done A)
    (t : Trace) : Type 0 where
  pub served : HasServed (answering first stack) (length (nodes stack.entries)) t done
  pub told : t.put ≡ replies stack first served.messages

-- these bytes are replies to messages, one after another: each is the one that is defined over a
-- stack; or EIO, if its data are read from a source that may lack them
abbrev pub AreRightReplies : Session → Sourced → Stacked → List (List ℕ) → List ℕ → Type 0
AreRightReplies first by stack messages bytes =
    AreReplies (λ s q told. IsRightOver by (reply stack s q) q told) first (map asked messages)
    bytes

-- a stream was served to its end from sources, and the bytes written are such replies to all of its
-- messages; and lookups are counted as over that stack
pub record HasServedRight {A : Type 0} (first : Session) (by : Sourced) (stack : Stacked)
    (done : Done A) (t : Trace) : Type 0 where
  pub served : HasServed (answering_from first by) (length (nodes stack.entries)) t done
  pub told : AreRightReplies first by stack served.messages t.put
  pub balanced :
      AreBalances (moves_of (answering first stack) served.messages) (length (nodes stack.entries))
      done.balances.items

-- the images are good, and all messages of the stream were answered over their stack, to its end
pub record HasServedAll {A : Type 0} (call : Call) (done : Done A) (old new : Devices)
    : Type 0 where
  pub stack : Stacked
  pub stacked : AreStacked call.profile call.owner call.images stack
  pub served : Does (HasServedOver call.first stack done) old new

-- the images are refused for this, and no device was called
pub record IsRefusedFor (call : Call) (refusal : Refusal) (old new : Devices) : Type 0 where
  pub refused : AreRefused call.profile call.images refusal
  pub kept : new ≡ old

-- with no turns: the turns are used up at once, or the images are refused
abbrev pub IsAtOnce : {A : Type 0} → Call → Result (Done A) Stop → Type 0
IsAtOnce call result =
    (result ≡ Err Turns)
    ⊎ ((stop : Stop) × (result ≡ Err stop) × IsRefusal call.profile call.images stop)
