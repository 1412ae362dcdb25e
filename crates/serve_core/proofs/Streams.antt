-- A stream that is served over what was gathered from images, from sources that hold them, gets the replies of the images (replied_same),
-- and is served as over them to its end (served_same). From sources that show them the same holds with EIO instead of data that they may
-- lack (replied_right, served_right).
use Rattle.std.proofs.Common.{◌≡◌, ◌∙◌, ap, subst, ℕ, List, [], ◌∷◌, ◌++◌, length, map, refl}
use Rattle.devices.specs.Sources.{Source}
use Rattle.fuse_wire.specs.Requests.{Asked, asked}
use Rattle.stack_model.specs.Listing.{Stacked}
use Rattle.stack_model.specs.Numbers.{nodes}
use Rattle.reply_model.specs.declared.session.Session.{Session}
use Rattle.reply_model.specs.declared.moves.Move.{Move}
use Rattle.reply_model.specs.Sessions.{session_after}
use Rattle.reply_model.specs.Replies.{reply}
use Rattle.reply_model.specs.Moves.{moves}
use Rattle.reply_model.specs.Holding.{AreHeldBy}
use Rattle.reply_model.specs.Readings.{Sourced, sourced, AreShown, IsRightOver}
use Rattle.reply_model.specs.Streams.{AreReplies, moves_by, replies}
use Rattle.reply_model.proofs.Following.{as_defined}
use Rattle.reply_rounds.specs.Answers.{answering, answering_from}
use Rattle.serve_loop.specs.declared.done.Done.{Done}
use Rattle.serve_loop.specs.Rounds.{IsReply}
use Rattle.serve_loop.specs.Serving.{AreRepliesTo, AreBalances, Trace, moves_of}
use Rattle.serve_loop.specs.Laws.{HasServed}
use Rattle.serve_core.specs.Headline.{AreRightReplies, HasServedOver, HasServedRight}
use Rattle.serve_core.proofs.Headline.{as_replied, replies_go}
use Rattle.serve_core.specs.Kept.{AreStacksOf}
use Rattle.serve_core.proofs.Answered.{told_same, told_right, moved_alike, entries_alike}

moves_go : (f g : Session → Asked → List Move) → ((s : Session) (q : Asked) → f s q ≡ g s q) → (s : Session) (qs : List Asked)
    → moves_by f s qs ≡ moves_by g s qs
moves_go f g e s [] = refl
moves_go f g e s (q ∷ qs) =
    ap (λ ms. ms ++ moves_by f (session_after s q.op) qs) (e s q) ∙ ap (λ ms. g s q ++ ms) (moves_go f g e (session_after s q.op) qs)

module _ (images : List (List ℕ)) (low whole : Stacked) (k : AreStacksOf images low whole) (sources : List Source)
    (kept : AreHeldBy sources images) where
  abbrev by : Sourced
  by = sourced low sources

  pub replied_same : (first : Session) (messages : List (List ℕ)) (bytes : List ℕ) → AreRepliesTo (answering_from first by) messages bytes
      → bytes ≡ replies whole first messages
  replied_same first messages bytes r =
      as_defined (IsReply (answering_from first by)) (reply whole) (told_same images low whole k sources kept) first
      (map asked messages) bytes r

  pub replied_forth : (first : Session) (messages : List (List ℕ)) (bytes : List ℕ) → AreRepliesTo (answering_from first by) messages bytes
      → AreRepliesTo (answering first whole) messages bytes
  replied_forth first messages bytes r =
      replies_go (IsReply (answering_from first by)) (IsReply (answering first whole))
      (told_same images low whole k sources kept) first (map asked messages) bytes r

  pub balanced_alike : (first : Session) (messages : List (List ℕ))
      → moves_of (answering_from first by) messages ≡ moves_of (answering first whole) messages
  balanced_alike first messages =
      moves_go (moves low) (moves whole) (moved_alike images low whole k) first (map asked messages)

  pub served_alike : {A : Type 0} (first : Session) (n : ℕ) (t : Trace) (done : Done A) → HasServed (answering_from first by) n t done
      → HasServed (answering first whole) n t done
  served_alike first n t done x = record {
    ended = x.ended;
    messages = x.messages;
    answered = record {
      split = x.answered.split;
      put = replied_forth first x.messages t.put x.answered.put;
      flushed_all = x.answered.flushed_all;
    };
    counted = x.counted;
    written = x.written;
    balanced = subst (λ ms. AreBalances ms n done.balances.items) (balanced_alike first x.messages) x.balanced;
  }

  pub served_same : {A : Type 0} (first : Session) (t : Trace) (done : Done A)
      → HasServed (answering_from first by) (length (nodes low.entries)) t done → HasServedOver first whole done t
  served_same first t done x =
      let y = subst (λ es. HasServed (answering first whole) (length (nodes es)) t done)
      (entries_alike images low whole k) (served_alike first (length (nodes low.entries)) t done x) in
      record { served = y; told = as_replied first whole y.messages t.put y.answered.put }

module _ (images : List (List ℕ)) (low whole : Stacked) (k : AreStacksOf images low whole) (sources : List Source)
    (shown : AreShown sources images) where
  abbrev from : Sourced
  from = sourced low sources

  pub replied_right : (first : Session) (messages : List (List ℕ)) (bytes : List ℕ)
      → AreRepliesTo (answering_from first from) messages bytes → AreRightReplies first from whole messages bytes
  replied_right first messages bytes r =
      replies_go (IsReply (answering_from first from)) (λ s q told. IsRightOver from (reply whole s q) q told)
      (told_right images low whole k sources shown) first (map asked messages) bytes r

  pub served_right : {A : Type 0} (first : Session) (t : Trace) (done : Done A)
      → HasServed (answering_from first from) (length (nodes low.entries)) t done → HasServedRight first from whole done t
  served_right first t done x =
      let same : low.entries ≡ whole.entries = entries_alike images low whole k in
      let y = subst (λ es. HasServed (answering_from first from) (length (nodes es)) t done) same x in
      record {
        served = y;
        told = replied_right first y.messages t.put y.answered.put;
        balanced = subst (λ ms. AreBalances ms (length (nodes whole.entries)) done.balances.items)
            (moves_go (moves low) (moves whole) (moved_alike images low whole k) first (map asked y.messages)) y.balanced;
      }
