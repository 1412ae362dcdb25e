-- Streams of requests in parts: the replies to one list of requests and then another, and their moves, are those of the one and then those
-- of the other, with the session carried along, and balances add up. `parts` are the three laws.
use Rattle.std.proofs.Common.{◌≡◌, ◌∙◌, sym, ap, ℕ, List, [], ◌∷◌, ◌++◌, refl, append_assoc}
use Rattle.std.specs.Prelude.{pos, ◌+ℤ◌, ◌==◌, if◌then◌else◌}
use Rattle.std.proofs.Math.IntN.{+ℤ_assoc, +ℤ_idl}
use Rattle.fuse_wire.specs.Requests.{Asked}
use Rattle.reply_model.specs.declared.session.Session.{Session}
use Rattle.reply_model.specs.declared.moves.Move.{Move}
use Rattle.reply_model.specs.Sessions.{session_after}
use Rattle.reply_model.specs.Moves.{balance}
use Rattle.reply_model.specs.Streams.{session_at, replies_by, moves_by}

-- the replies to two lists of requests are those to the first, and then those to the second in the
-- session that the first leaves
pub replies-append : (answered : Session → Asked → List ℕ) (s : Session) (qs rs : List Asked)
    → replies_by answered s (qs ++ rs) ≡ replies_by answered s qs ++ replies_by answered (session_at s qs) rs
replies-append answered s [] rs = refl
replies-append answered s (q ∷ qs) rs = ap (λ v. answered s q ++ v)
    (replies-append answered (session_after s q.op) qs rs) ∙ sym (append_assoc (answered s q) _ _)

-- the moves of two lists of requests are those of the first, and then those of the second in the
-- session that the first leaves
pub moves-append : (moved : Session → Asked → List Move) (s : Session) (qs rs : List Asked)
    → moves_by moved s (qs ++ rs) ≡ moves_by moved s qs ++ moves_by moved (session_at s qs) rs
moves-append moved s [] rs = refl
moves-append moved s (q ∷ qs) rs = ap (λ v. moved s q ++ v) (moves-append moved (session_after s q.op) qs rs)
    ∙ sym (append_assoc (moved s q) _ _)

-- the balance of moves and then others is the sum of both balances
pub balance-append : (node : ℕ) (ms ns : List Move) → balance node (ms ++ ns) ≡ balance node ms +ℤ balance node ns
balance-append node [] ns = sym (+ℤ_idl (balance node ns))
balance-append node (m ∷ ms) ns = ap (λ v. (if m.node == node then m.amount else pos 0) +ℤ v)
    (balance-append node ms ns) ∙ sym (+ℤ_assoc _ (balance node ms) (balance node ns))

-- the replies, moves and session of a stream in two parts
pub ruleset parts = (replies-append, moves-append, balance-append)
