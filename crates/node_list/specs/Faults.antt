-- The effect of a list on its sink.
use Rattle.std.specs.Prelude.{◌≡◌, ◌+◌, ◌≤◌}
use Rattle.std.specs.Io.KnownBytes.{Appends}
use Rattle.devices.specs.Pushing.{GainsFront}
use Rattle.devices.specs.States.{SinkState}
use Rattle.stack_model.specs.Listing.{Stacked}
use Rattle.node_list.specs.declared.walk.ListFault.{ListFault}
use Rattle.node_list.specs.declared.walk.ListFault.TheVariants.{Write, Memory}
use Rattle.node_list.specs.Lines.{lines}

-- the sink gained the lines of the table's listing, and all of them are flushed
pub record Lists (table : Stacked) (old new : SinkState) : Type 0 where
  pub gained : Appends old.held new.held (lines table)
  pub flushed : new.counts.unflushed ≤ old.counts.unflushed

-- the list stopped: memory ran out and the sink is unchanged; or the sink failed once more, and
-- gained at most a prefix of the lines
abbrev pub IsBrokenOff : Stacked → SinkState → SinkState → ListFault → Type 0
IsBrokenOff table old new Memory = new ≡ old
IsBrokenOff table old new Write =
    (new.counts.failures ≡ old.counts.failures + 1)
    × GainsFront (lines table) old.held new.held
