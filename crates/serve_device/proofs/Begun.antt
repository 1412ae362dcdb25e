-- Readers that served did so in a session that had begun (`went_on`); one that served alone ended before (`ended_before`).
use Rattle.std.proofs.Common.{◌≡◌, subst, false, List, ◌∷◌, None, Some, Result}
use Rattle.std.specs.List.{AllZip}
use Rattle.reply_model.specs.declared.session.Session.{Session}
use Rattle.reply_model.specs.Readings.{Sourced}
use Rattle.reply_model.specs.Sessions.{is_fresh}
use Rattle.reply_pool.specs.Answers.{answering_from}
use Rattle.serve_loop.specs.declared.done.Done.{Done}
use Rattle.serve_loop.specs.Opening.{WasNotBegun}
use Rattle.serve_loop.specs.Serving.{Does, Trace}
use Rattle.serve_loop.specs.declared.stream_fault.StreamFault.{StreamFault}
use Rattle.serve_core.specs.Headline.{Bounds}
use Rattle.serve_core.specs.Openings.{IsNotOpenedOver}
use Rattle.serve_device.specs.Laws.{HasServedBefore}
use Rattle.serve_device.specs.Readers.{AreServedBy, HasDone, HasServed, shared}
use Rattle.serve_device.specs.Seats.{SeatState}

module _ {A : Type 0} (over : Sourced) (within : Bounds) where
  pub went_on : (first : Session) (old new : List (SeatState A)) (before : Done A)
      → AreServedBy first (shared over within) old new (Some before)
      → (session : Session) × (is_fresh session ≡ false) × (leader began : SeatState A) × (others : List (SeatState A))
      × (old ≡ leader ∷ others) × AllZip (HasServed session over within) (began ∷ others) new
  went_on first old new before s =
      let (got, put, took, held, opened) = s.opened in
      (s.begun.session, opened.ready, s.leader, s.began, s.others, s.old_is, s.each)

  served_before : (first : Session) (t : Trace) (result : Result (Done A) StreamFault) → IsNotOpenedOver first over within t result
      → HasServedBefore first over within t result
  served_before first t result o = record {
    run = o.run;
    ended = λ done is. subst (WasNotBegun (answering_from first over) t) is o.not_begun;
    failed = λ is. subst (WasNotBegun (answering_from first over) t) is o.not_begun;
  }

  pub ended_before : (first : Session) (old new : List (SeatState A)) → AreServedBy first (shared over within) old new None
      → (leader ended : SeatState A) × (others : List (SeatState A)) × (old ≡ leader ∷ others) × (new ≡ ended ∷ others)
      × HasDone (λ result. Does (λ t. HasServedBefore first over within t result)) leader ended
  ended_before first old new s =
      let o = s.opened in
      let (got, put, took, held, opened) = o.does in (
        s.leader,
        s.ended,
        s.others,
        s.old_is,
        s.new_is,
        record {
          result = o.result;
          result_is = o.result_is;
          does = (got, put, took, held, served_before first _ o.result opened);
          gone = o.gone;
        },
      )
