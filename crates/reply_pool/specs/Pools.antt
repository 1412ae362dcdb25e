-- What a pool requires from the workers that answer its long rounds.
use Rattle.std.specs.Prelude.{ℕ, List, Result, IfOk}
use Rattle.std.specs.Fn.{Shared}
use denote.Ref.{Bor}
use Rattle.reply_model.specs.declared.session.Session.{Session}
use Rattle.reply_rounds.specs.Spread.{IsSpreadable}

-- workers that are called with a stream, a session and how many of its first messages: they accept
-- what may be spread out, and their result is complete and answers the stream
pub record SpreadsRounds {F P E : Type 0}
    (calls : Shared F (Bor (List ℕ) × (Session × (ℕ × Unit {0}))) (Result P E)) (workers : F)
    (IsWhole : P → Type 0) (Answers : P → Session → List ℕ → Type 0) : Type 0 where
  pub takes : (stream : Bor (List ℕ)) (session : Session) (messages : ℕ)
      → IsSpreadable stream.now messages
      → calls.pre workers (stream, (session, (messages, tt)))
  pub whole : (stream : Bor (List ℕ)) (session : Session) (messages : ℕ) (given : Result P E)
      → calls.post workers (stream, (session, (messages, tt))) given
      → IfOk given IsWhole
  pub answers : (stream : Bor (List ℕ)) (session : Session) (messages : ℕ) (given : Result P E)
      → calls.post workers (stream, (session, (messages, tt))) given
      → IfOk given (λ p. Answers p session stream.now)
