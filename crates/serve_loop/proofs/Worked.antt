-- The worked examples, by computation: each lemma is one record of `specs/Examples`.
use Rattle.std.proofs.Common.{refl}
use Rattle.serve_loop.specs.Examples.{PullExamples, PushExamples}

-- what was got before the last pull
pub pulls : PullExamples
pulls = record { three_and_two = refl; five_at_once = refl; the_end = refl; failure = λ e. refl }

-- what of the replies was flushed
pub pushes : PushExamples
pushes = record { no_flush = refl; two_pushes = refl; failed_flush = λ e. refl; one_more = refl; all = refl }
