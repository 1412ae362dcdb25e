-- What a contract sees of a source or a sink before or after a call.
use Rattle.std.specs.Prelude.{ℕ, List, Option}
use Rattle.devices.specs.declared.counts.Pulls.{Pulls}
use Rattle.devices.specs.declared.counts.Pushes.{Pushes}

-- of a source: its remaining bytes, if they are known, and its counts
pub record SourceState : Type 0 where
  pub left : Option (List ℕ)
  pub counts : Pulls

-- of a sink: the bytes that it holds, if they are known, and its counts
pub record SinkState : Type 0 where
  pub held : Option (List ℕ)
  pub counts : Pushes

-- the state of a source, from its bytes and its counts
abbrev pub source_state : Option (List ℕ) → Pulls → SourceState
source_state left counts = record { left = left; counts = counts }

-- the state of a sink, from its bytes and its counts
abbrev pub sink_state : Option (List ℕ) → Pushes → SinkState
sink_state held counts = record { held = held; counts = counts }

-- a source and a sink, as a call between them sees them
pub record Devices : Type 0 where
  pub source : SourceState
  pub sink : SinkState

-- a source and a sink, in these two states
abbrev pub devices : SourceState → SinkState → Devices
devices source sink = record { source = source; sink = sink }
