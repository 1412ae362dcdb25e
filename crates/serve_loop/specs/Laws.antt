-- What a served stream means to a caller, end by end.
use Rattle.std.specs.Prelude.{◌≡◌, ℕ, ◌+◌, List, [], length, Some}
use Rattle.devices.specs.declared.counts.LastPull.TheVariants.{End, Failure}
use Rattle.fuse_wire.specs.Stream.{IsUnfinished, IsBad, IsOpen, IsSplit}
use Rattle.serve_loop.specs.Rounds.{Answering, joined}
use Rattle.serve_loop.specs.declared.done.Done.{Done}
use Rattle.serve_loop.specs.Serving.{Trace, AreRepliesTo, BeginReplies, moves_of, flushed_bytes, AreBalances}

-- all replies to the complete messages that were pulled are pushed and flushed; this rest is left
pub record HasAnsweredAll (by : Answering) (t : Trace) (messages : List (List ℕ))
    (rest : List ℕ) : Type 0 where
  pub split : IsSplit t.got messages rest
  pub put : AreRepliesTo by messages t.put
  pub flushed_all : flushed_bytes t ≡ t.put

-- the last pull met the end; the stream consists of messages, all are answered, and the balances
-- are what they gave and took
pub record HasServed {A : Type 0} (by : Answering) (nodes : ℕ) (t : Trace)
    (done : Done A) : Type 0 where
  pub ended : t.source.last ≡ Some End
  pub messages : List (List ℕ)
  pub answered : HasAnsweredAll by t messages []
  pub counted : done.messages ≡ length messages
  pub written : done.written ≡ length t.put
  pub balanced : AreBalances (moves_of by messages) nodes done.balances.items

-- the rest states a length that no message can have, and begins at this place
pub record HasBadLength (by : Answering) (t : Trace) (at len : ℕ) : Type 0 where
  pub messages : List (List ℕ)
  pub rest : List ℕ
  pub answered : HasAnsweredAll by t messages rest
  pub place : at ≡ length (joined messages)
  pub bad : IsBad rest len

-- the rest is a message that was cut off, and begins at this place
pub record IsCutOff (by : Answering) (t : Trace) (at : ℕ) : Type 0 where
  pub ended : t.source.last ≡ Some End
  pub messages : List (List ℕ)
  pub rest : List ℕ
  pub answered : HasAnsweredAll by t messages rest
  pub place : at ≡ length (joined messages)
  pub cut : IsUnfinished rest

-- the last pull failed, and everything before it is answered
pub record HasFailed (by : Answering) (t : Trace) : Type 0 where
  pub failed : t.source.last ≡ Some Failure
  pub messages : List (List ℕ)
  pub rest : List ℕ
  pub answered : HasAnsweredAll by t messages rest

-- all is answered, as many pulls were made as there are turns, and what is left is good
pub record HasUsedTurns (by : Answering) (turns : ℕ) (t : Trace) : Type 0 where
  pub pulls : t.source.pulls ≡ t.source_before.pulls + turns
  pub messages : List (List ℕ)
  pub rest : List ℕ
  pub answered : HasAnsweredAll by t messages rest
  pub good : IsOpen rest

-- the bytes written are a prefix of the replies to those pulled
pub record IsFront (by : Answering) (t : Trace) : Type 0 where
  pub messages : List (List ℕ)
  pub rest : List ℕ
  pub split : IsSplit t.got messages rest
  pub begun : BeginReplies by messages t.put
