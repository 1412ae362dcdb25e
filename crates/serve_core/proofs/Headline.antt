-- The result of serving over images, in the terms of the headline: served over good images, or refused, for a wrong number or a broken
-- layer. Each is what `serve` promises, with its other cases ruled out.
use Rattle.std.proofs.Common.{◌≡◌, ◌∙◌, sym, ap, subst, length, ℕ, List, [], ◌∷◌, map, inl, inr, Result, Ok, Err, IfOk, IsErrAnd, refl}
use Rattle.devices.specs.States.{Devices}
use Rattle.romfs_format.specs.declared.rule.ImageFault.{ImageFault}
use Rattle.stack_model.specs.Numbers.{nodes}
use Rattle.stack_model.specs.Listing.{Stacked}
use Rattle.stack_prepare.specs.declared.refusal.Refusal.{Refusal}
use Rattle.stack_prepare.specs.declared.refusal.Refusal.TheVariants as refusals
use Rattle.stack_prepare.specs.Layers.{AreRefused}
use Rattle.stack_prepare.specs.Preparing.{AreStacked}
use Rattle.reply_model.specs.declared.session.Session.{Session}
use Rattle.reply_model.specs.Replies.{reply}
use Rattle.reply_model.specs.Sessions.{session_after}
use Rattle.reply_model.specs.Streams.{AreReplies, replies}
use Rattle.reply_model.specs.Readings.{Sourced, in_memory, sourced, AreShown, IsRightOver}
use Rattle.reply_model.proofs.Following.{as_defined}
use Rattle.reply_model.proofs.HeldData.{held_layers_told, shown_layers_told}
use Rattle.devices.specs.Sources.{Source, held}
use Rattle.fuse_wire.specs.Requests.{Asked, asked}
use Rattle.serve_loop.specs.Rounds.{IsReply}
use Rattle.serve_loop.specs.Laws.{HasServed}
use Rattle.reply_pool.specs.Answers.{answering, answering_from}
use Rattle.reply_pool.specs.Spread.{SpreadsFrom}
use Rattle.reply_pool.specs.declared.RoundPieces.{RoundPieces}
use Rattle.serve_loop.specs.declared.done.Done.{Done}
use Rattle.serve_loop.specs.declared.stream_fault.StreamFault.{StreamFault}
use Rattle.serve_loop.specs.Serving.{AreRepliesTo, IsRun, Trace}
use Rattle.serve_loop.proofs.Ends.{served}
use Rattle.serve_core.specs.declared.terms.Counted.TheVariants.{AllNodes}
use Rattle.serve_core.specs.declared.stop.Stop.{Stop}
use Rattle.serve_core.specs.declared.stop.Stop.TheVariants.{Layer, Layers}
use Rattle.serve_core.specs.Stops.{IsRefusal, stop_of_refusal, told}
use Rattle.serve_core.specs.Headline.{AreRightReplies, Call, HasServedAll, HasServedOver, IsAtOnce, IsNotBegun, IsRefusedFor, RunsWithin, ServesBetween, bounds_over}
use Rattle.serve_core.proofs.Stops.{broken_told, ended_well, many_told, never_broken, never_many, same_stop}

-- what workers returned over one stack answers the stream of any other that is the same
pub spread_answers : {A E : Type 0} (first : Session) (over by : Sourced) (s : Session) (stream : List ℕ) (given : Result (RoundPieces A) E)
    → over ≡ by → IfOk given (λ spread. SpreadsFrom by s stream spread)
    → IfOk given (λ spread. (begun : Session) × (x : Sourced) × (answering_from first over ≡ answering_from begun x)
    × SpreadsFrom x s stream spread)
spread_answers first over by s stream (Ok spread) same out = (first, over, refl, subst (λ x. SpreadsFrom x s stream spread) (sym same) out)
spread_answers first over by s stream (Err e) same out = tt

-- if images are refused and no device was called, serving was not begun, and its result says why
pub not_begun : {A : Type 0} (call : Call) (result : Result (Done A) Stop) (stop : Stop) (old : Devices)
    → IsErrAnd result (λ said. said ≡ stop) → IsRefusal call.profile call.images stop → IsNotBegun call result old old
not_begun call (Ok done) stop old e r = absurd e
not_begun call (Err said) stop old e r = record { stop = stop; result_is = ap Err e; refused = r; kept = refl }

-- possible replies over held layers are the defined ones
pub as_replied : (first : Session) (stack : Stacked) (messages : List (List ℕ)) (bytes : List ℕ)
    → AreRepliesTo (answering first stack) messages bytes → bytes ≡ replies stack first messages
as_replied first stack messages bytes are =
    as_defined (IsReply (answering first stack)) (reply stack) (λ s q put told. told) first (map asked messages) bytes are

-- and so are they if the data of each layer are read from a source that holds just its bytes
pub as_replied_from : (first : Session) (stack : Stacked) (messages : List (List ℕ)) (bytes : List ℕ)
    → AreRepliesTo (answering_from first (sourced stack (map held stack.layers))) messages bytes → bytes ≡ replies stack first messages
as_replied_from first stack messages bytes are =
    let by = sourced stack (map held stack.layers) in
    as_defined (IsReply (answering_from first by)) (reply stack) (held_layers_told stack) first (map asked messages) bytes are

-- what may be a reply to each request may be one to those one after another
pub replies_go : (P Q : Session → Asked → List ℕ → Type 0) → ((s : Session) (q : Asked) (x : List ℕ) → P s q x → Q s q x) → (s : Session)
    (qs : List Asked) (bytes : List ℕ) → AreReplies P s qs bytes → AreReplies Q s qs bytes
replies_go P Q f s [] bytes r = r
replies_go P Q f s (q ∷ qs) bytes (one, rest, e, x, r) = (one, rest, e, f s q one x, replies_go P Q f (session_after s q.op) qs rest r)

-- possible replies from sources that show the layers are right
pub right_replies : (first : Session) (stack : Stacked) (sources : List Source) → AreShown sources stack.layers
    → (messages : List (List ℕ)) (bytes : List ℕ) → AreRepliesTo (answering_from first (sourced stack sources)) messages bytes
    → AreRightReplies first (sourced stack sources) stack messages bytes
right_replies first stack sources shown messages bytes are =
    replies_go (IsReply (answering_from first (sourced stack sources)))
    (λ s q told. IsRightOver (sourced stack sources) (reply stack s q) q told) (shown_layers_told stack sources shown) first
    (map asked messages) bytes are

all_served : {A : Type 0} (first : Session) (stack : Stacked) (done : Done A) (t : Trace)
    → HasServed (answering first stack) (length (nodes stack.entries)) t done → HasServedOver first stack done t
all_served first stack done t s = record { served = s; told = as_replied first stack s.messages t.put s.answered.put }

module _ {A : Type 0} (call : Call) where
  -- if serving reached its end, all was served over good images
  pub served_over : (done : Done A) (old new : Devices) → ServesBetween call (Ok done) old new → HasServedAll call done old new
  served_over done old new (inl s) =
      let (got, put, took, held, run) = s.runs.runs.run in
      record {
        stack = s.stack;
        stacked = s.stacked;
        served = (
          got,
          put,
          took,
          held,
          all_served call.first s.stack done _ (served (answering call.first s.stack) (length (nodes s.stack.entries)) call.turns _ done
              (subst (IsRun (answering call.first s.stack) (length (nodes s.stack.entries)) call.turns _)
              (ended_well done s.runs.ended s.runs.result_is) run)),
        );
      }
  served_over done old new (inr n) = (let e = n.result_is in absurd (cc))

  refused_for : (refusal : Refusal) (stop : Stop) (old new : Devices) → IsNotBegun {A = A} call (Err stop) old new
      → ((other : Refusal) → stop ≡ stop_of_refusal other → other ≡ refusal) → IsRefusedFor call refusal old new
  refused_for refusal stop old new n one = record {
    refused = subst (AreRefused call.profile call.images) (one n.refused.refusal (same_stop n.result_is ∙ n.refused.stop_is))
        n.refused.refused;
    kept = n.kept;
  }

  -- if it stopped for the number of layers, the images were refused for that
  pub many_refused : (count : ℕ) (old new : Devices) → ServesBetween {A = A} call (Err (Layers count)) old new
      → IsRefusedFor call (refusals.Layers count) old new
  many_refused count old new (inl s) = absurd (never_many count s.runs.ended s.runs.result_is)
  many_refused count old new (inr n) = refused_for (refusals.Layers count) (Layers count) old new n (many_told count)

  -- if it stopped for a broken layer, the images were refused for that
  pub broken_refused : (layer : ℕ) (fault : ImageFault) (old new : Devices) → ServesBetween {A = A} call (Err (Layer layer fault)) old new
      → IsRefusedFor call (refusals.Layer layer fault) old new
  broken_refused layer fault old new (inl s) = absurd (never_broken layer fault s.runs.ended s.runs.result_is)
  broken_refused layer fault old new (inr n) =
      refused_for (refusals.Layer layer fault) (Layer layer fault) old new n (broken_told layer fault)

  -- with no turns the call returns at once
  pub at_once : (result : Result (Done A) Stop) (old new : Devices) → call.turns ≡ 0 → ServesBetween call result old new
      → IsAtOnce call result
  at_once result old new none (inl s) = inl (s.runs.result_is ∙ ap told (s.runs.runs.at_once none))
  at_once result old new none (inr n) = inr (n.stop, n.result_is, n.refused)

-- the four of them, for the goals of the laws
pub ruleset over_images = (served_over, many_refused, broken_refused, at_once)

-- to prepare images and then to run a stream over their table is to serve it over the images
pub once_run : {A : Type 0} (call : Call) (stack : Stacked) (ended : Result (Done A) StreamFault) (old new : Devices)
    → AreStacked call.profile call.owner call.images stack
    → RunsWithin call.first (in_memory stack) (bounds_over call.turns AllNodes (in_memory stack)) ended old new
    → ServesBetween call (told ended) old new
once_run call stack ended old new stacked runs =
    inl (record { stack = stack; stacked = stacked; runs = record { ended = ended; result_is = refl; runs = runs } })

-- and to refuse them is not to begin
pub once_refused : {A : Type 0} (call : Call) (refusal : Refusal) (devices : Devices) → AreRefused call.profile call.images refusal
    → ServesBetween {A = A} call (Err (stop_of_refusal refusal)) devices devices
once_refused call refusal devices refused = inr (record {
  stop = stop_of_refusal refusal;
  result_is = refl;
  refused = record { refusal = refusal; stop_is = refl; refused = refused };
  kept = refl;
})

pub ruleset run_once_prepared = (once_run, once_refused)
