-- Lines that an output gained, or lost.
use Rattle.std.specs.Prelude.{◌≡◌, ◌+◌, ℕ, List}
use Rattle.std.specs.Io.KnownBytes.{Appends}
use Rattle.devices.specs.Pushing.{HasFlushed, GainsFront}
use Rattle.devices.specs.States.{SinkState}

-- lines were written to a sink and flushed
pub record ArePut (lines : List ℕ) (old new : SinkState) : Type 0 where
  pub written : Appends old.held new.held lines
  pub flushed : HasFlushed lines old.counts new.counts

-- the output failed once more, and gained at most a prefix of these lines
pub record AreLost (lines : List ℕ) (old new : SinkState) : Type 0 where
  pub failed : new.counts.failures ≡ old.counts.failures + 1
  pub gained : GainsFront lines old.held new.held
