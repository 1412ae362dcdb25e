-- Worked examples: what was pulled before the last pull, what was pushed and has been flushed
-- since, and the numbers of the limits.
use Rattle.std.specs.Prelude.{◌≡◌, [], ◌∷◌, Ok, Err}
use Rattle.devices.specs.declared.failed.Failed.{Failed}
use Rattle.devices.specs.declared.counts.Pulls.{Pulls}
use Rattle.devices.specs.declared.counts.Pushes.{Pushes}
use Rattle.devices.specs.Counting.{no_pulls, no_pushes, pulled, pushed, flushed}
use Rattle.serve_loop.specs.declared.limits.TheConstants.{ENOUGH_REPLIES, MAX_ROUND_MESSAGES}
use Rattle.serve_loop.specs.Serving.{Trace, trace, before, flushed_bytes}

-- five bytes were pulled and three pushed, by a source and a sink with these counts
abbrev pub some_trace : Pulls → Pushes → Trace
some_trace source sink =
    trace (1 ∷ 2 ∷ 3 ∷ 4 ∷ 5 ∷ []) (7 ∷ 8 ∷ 9 ∷ []) no_pulls source no_pushes sink

-- the bytes of the last pull are left out; if it met the end or failed there are none
pub record PullExamples : Type 0 where
  pub three_and_two : before (some_trace (pulled (pulled no_pulls (Ok 3)) (Ok 2)) no_pushes) ≡ 1 ∷
      2 ∷ 3 ∷ []
  pub five_at_once : before (some_trace (pulled no_pulls (Ok 5)) no_pushes) ≡ []
  pub the_end : before (some_trace (pulled (pulled no_pulls (Ok 5)) (Ok 0)) no_pushes) ≡ 1 ∷ 2 ∷ 3 ∷
      4 ∷ 5 ∷ []
  pub failure : (e : Failed) → before
      (some_trace (pulled (pulled no_pulls (Ok 5)) (Err e)) no_pushes) ≡ 1 ∷ 2 ∷ 3 ∷ 4 ∷ 5 ∷ []

-- what was pushed after the last successful flush is left out
pub record PushExamples : Type 0 where
  pub no_flush : flushed_bytes (some_trace no_pulls (pushed no_pushes 3 (Ok 3))) ≡ []
  pub two_pushes : flushed_bytes
      (some_trace no_pulls (pushed (pushed no_pushes 3 (Ok 2)) 1 (Ok 1))) ≡ []
  pub failed_flush : (e : Failed)
      → flushed_bytes (some_trace no_pulls (flushed (pushed no_pushes 3 (Ok 3)) (Err e))) ≡ []
  pub one_more : flushed_bytes (some_trace no_pulls
      (pushed (flushed (pushed no_pushes 2 (Ok 2)) (Ok tt)) 1 (Ok 1))) ≡ 7 ∷ 8 ∷ []
  pub all : flushed_bytes (some_trace no_pulls
      (flushed (pushed (pushed no_pushes 3 (Ok 2)) 1 (Ok 1)) (Ok tt))) ≡ 7 ∷ 8 ∷ 9 ∷ []

-- the limits of a round
pub record LimitExamples : Type 0 where
  pub round : MAX_ROUND_MESSAGES ≡ 256
  pub enough : ENOUGH_REPLIES ≡ 262144
