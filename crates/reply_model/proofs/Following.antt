-- Replies to requests one after another, whatever may be a reply to one: those to some requests and then those to others are replies to all
-- (replies_on), and they are the defined ones if each is (as_defined).
use Rattle.std.proofs.Common.{◌≡◌, ◌∙◌, sym, ap, subst, ℕ, List, [], ◌∷◌, ◌++◌, refl, append_assoc, append-nil}
use Rattle.fuse_wire.specs.Requests.{Asked}
use Rattle.reply_model.specs.declared.session.Session.{Session}
use Rattle.reply_model.specs.Sessions.{session_after}
use Rattle.reply_model.specs.Streams.{AreReplies, replies_by, session_at}

module _ (IsReply : Session → Asked → List ℕ → Type 0) where
  -- no requests have no replies
  pub no_replies : (s : Session) → AreReplies IsReply s [] []
  no_replies s = refl

  -- one request has one reply
  pub one_reply : (s : Session) (q : Asked) (put : List ℕ) → IsReply s q put → AreReplies IsReply s (q ∷ []) put
  one_reply s q put is = (put, [], sym (append-nil put), is, refl)

  -- replies to requests and then replies to others, in the session that the first leave, are replies to all
  pub replies_on : (s : Session) (xs ys : List Asked) (put more : List ℕ) → AreReplies IsReply s xs put
      → AreReplies IsReply (session_at s xs) ys more → AreReplies IsReply s (xs ++ ys) (put ++ more)
  replies_on s [] ys put more a b = subst (AreReplies IsReply s ys) (ap (λ v. v ++ more) (sym a)) b
  replies_on s (x ∷ xs) ys put more (one, rest, is, told, a) b = (
    one,
    rest ++ more,
    ap (λ v. v ++ more) is ∙ append_assoc one rest more,
    told,
    replies_on (session_after s x.op) xs ys rest more a b,
  )

  -- if each is the reply that is defined, all are those
  pub as_defined : (reply : Session → Asked → List ℕ)
      → ((s : Session) (q : Asked) (bytes : List ℕ) → IsReply s q bytes → bytes ≡ reply s q) → (s : Session) (qs : List Asked)
      (bytes : List ℕ) → AreReplies IsReply s qs bytes → bytes ≡ replies_by reply s qs
  as_defined reply same s [] bytes are = are
  as_defined reply same s (q ∷ qs) bytes (one, rest, is, told, are) =
      is ∙ ap (λ v. v ++ rest) (same s q one told) ∙ ap (λ v. reply s q ++ v) (as_defined reply same (session_after s q.op) qs rest are)

  -- requests, each with a possible defined reply, have replies
  pub some_replies : (reply : Session → Asked → List ℕ) → ((s : Session) (q : Asked) → IsReply s q (reply s q)) → (s : Session)
      (qs : List Asked) → AreReplies IsReply s qs (replies_by reply s qs)
  some_replies reply each s [] = refl
  some_replies reply each s (q ∷ qs) = (
    reply s q,
    replies_by reply (session_after s q.op) qs,
    refl,
    each s q,
    some_replies reply each (session_after s q.op) qs,
  )
