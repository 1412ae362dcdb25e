-- The results of readers, for a caller: which end is reported, when only one serves, and the
-- lookups that they moved together.
use Rattle.std.specs.Prelude.{◌≡◌, ◌≤◌, ◌⊎◌, ⊤, ℕ, ℤ, pos, ◌+ℤ◌, List, [], ◌∷◌, Result, Ok, Err}
use Rattle.std.specs.List.{AllByRecursion}
use Rattle.fuse_wire.specs.Requests.{asked}
use Rattle.fuse_wire.specs.Stream.{IsSplit}
use Rattle.reply_model.specs.Balances.{balance_at}
use Rattle.reply_model.specs.Moves.{balance}
use Rattle.reply_model.specs.declared.session.Session.{Session}
use Rattle.reply_model.specs.Sessions.{session_after}
use Rattle.reply_model.specs.Readings.{Sourced}
use Rattle.reply_pool.specs.Answers.{answering_from}
use Rattle.serve_loop.specs.declared.done.Done.{Done}
use Rattle.serve_loop.specs.Opening.{HasNotBegun}
use Rattle.serve_loop.specs.Rounds.{Answering}
use Rattle.serve_loop.specs.Serving.{AreBalances, BeginReplies, Does, Trace, moves_of}
use Rattle.serve_loop.specs.declared.stream_fault.StreamFault.{StreamFault}
use Rattle.serve_loop.specs.declared.stream_fault.StreamFault.TheVariants.{Read}
use Rattle.serve_core.specs.Headline.{Bounds, IsRunWithin}
use Rattle.serve_device.specs.declared.ends.End.{End}
use Rattle.serve_device.specs.Ends.{place_of_end}
use Rattle.serve_device.specs.Seats.{SeatState, devices_of, own_end}

-- this end ranks before that of each of the readers, or alike
abbrev pub IsToldFirst : {A : Type 0} → End → List (SeatState A) → Type 0
IsToldFirst end seats = AllByRecursion (λ s. place_of_end end ≤ place_of_end (own_end s)) seats

-- one of the readers has this end
abbrev pub HasReader : {A : Type 0} → End → List (SeatState A) → Type 0
HasReader end [] = ⊥
HasReader end (seat ∷ seats) = (end ≡ own_end seat) ⊎ HasReader end seats

-- a reader's messages were served over a stack as a stream that begins in this session; if they
-- ended, or a read failed, they are not complete messages after which it has begun
pub record HasServedBefore {A : Type 0} (first : Session) (by : Sourced) (within : Bounds)
    (t : Trace) (result : Result (Done A) StreamFault) : Type 0 where
  pub run : IsRunWithin first by within t result
  pub ended : (done : Done A) → result ≡ Ok done → HasNotBegun (answering_from first by) t.got
  pub failed : result ≡ Err Read → HasNotBegun (answering_from first by) t.got

-- these complete messages were read, and the bytes written are a prefix of the replies to them
pub record IsAnswered (by : Answering) (messages : List (List ℕ)) (t : Trace) : Type 0 where
  pub rest : List ℕ
  pub split : IsSplit t.got messages rest
  pub begun : BeginReplies by messages t.put

-- each of the readers read and answered these messages, between its own devices
abbrev pub HaveMessages : {A : Type 0} → Answering → List (SeatState A) → List (SeatState A)
    → List (List (List ℕ)) → Type 0
HaveMessages by [] [] [] = ⊤
HaveMessages by (old ∷ olds) (new ∷ news) (messages ∷ others) =
    Does (IsAnswered by messages) (devices_of old) (devices_of new)
    × HaveMessages by olds news others
HaveMessages by _ _ _ = ⊥

-- what these parts of messages give to a node, minus what they take, each part a stream of its own
abbrev pub moved_at : Answering → ℕ → List (List (List ℕ)) → ℤ
moved_at by node [] = pos 0
moved_at by node (messages ∷ others) =
    balance node (moves_of by messages) +ℤ moved_at by node others

-- how many lookups these streams together leave with the client, of the node at a place, if they
-- count them
abbrev pub sum_at : {A : Type 0} → ℕ → List (Done A) → ℤ
sum_at place [] = pos 0
sum_at place (done ∷ more) = balance_at done.balances.items place +ℤ sum_at place more

-- each of these streams left what its messages moved, for this many of the first nodes
abbrev pub CameOf : {A : Type 0} → Answering → ℕ → List (Done A) → List (List (List ℕ)) → Type 0
CameOf by nodes [] [] = ⊤
CameOf by nodes (done ∷ more) (messages ∷ others) =
    AreBalances (moves_of by messages) nodes done.balances.items × CameOf by nodes more others
CameOf by nodes [] (messages ∷ others) = ⊥
CameOf by nodes (done ∷ more) [] = ⊥

-- none of these messages changes the session
abbrev pub KeepsSession : Session → List (List ℕ) → Type 0
KeepsSession s messages = AllByRecursion (λ m. session_after s (asked m).op ≡ s) messages
