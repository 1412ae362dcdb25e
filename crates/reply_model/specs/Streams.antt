-- Requests one after another: their replies and their moves, the session carried along.
use Rattle.std.specs.Prelude.{◌≡◌, ℕ, List, [], ◌∷◌, ◌++◌, map, fold, ℤ}
use Rattle.fuse_wire.specs.Requests.{Asked, asked}
use Rattle.stack_model.specs.Listing.{Stacked}
use Rattle.reply_model.specs.declared.session.Session.{Session}
use Rattle.reply_model.specs.declared.moves.Move.{Move}
use Rattle.reply_model.specs.Sessions.{session_after}
use Rattle.reply_model.specs.Replies.{reply}
use Rattle.reply_model.specs.Moves.{moves, balance}

-- the session after requests
abbrev pub session_at : Session → List Asked → Session
session_at s qs = fold (λ t q. session_after t q.op) s qs

-- the replies to requests one after another, whatever the reply to one of them is
abbrev pub replies_by : (Session → Asked → List ℕ) → Session → List Asked → List ℕ
replies_by answered s [] = []
replies_by answered s (q ∷ qs) = answered s q ++ replies_by answered (session_after s q.op) qs

-- these bytes are replies to requests one after another, whatever may be a reply to one of them
abbrev pub AreReplies : (Session → Asked → List ℕ → Type 0) → Session → List Asked → List ℕ
    → Type 0
AreReplies IsReply s [] bytes = bytes ≡ []
AreReplies IsReply s (q ∷ qs) bytes =
    (one : List ℕ) × (rest : List ℕ) × (bytes ≡ one ++ rest) × IsReply s q one
    × AreReplies IsReply (session_after s q.op) qs rest

-- the moves of requests one after another, whatever one of them moves
abbrev pub moves_by : (Session → Asked → List Move) → Session → List Asked → List Move
moves_by moved s [] = []
moves_by moved s (q ∷ qs) = moved s q ++ moves_by moved (session_after s q.op) qs

-- the replies to messages, over the layers and the paths that they show
abbrev pub replies : Stacked → Session → List (List ℕ) → List ℕ
replies stack s messages = replies_by (reply stack) s (map asked messages)

-- the lookups of a node that the client holds after these messages, which begin in this session; it
-- may be below 0
abbrev pub balance_after : Stacked → Session → List (List ℕ) → ℕ → ℤ
balance_after stack first messages node =
    balance node (moves_by (moves stack) first (map asked messages))
