-- read(2), write(2) on /dev/fuse: what a contract sees of both devices together.
use Rattle.std.specs.Prelude.{ℕ, Bool, List, Option, None}
use Rattle.std.specs.Io.Buffered.{reader_remaining}
use Rattle.devices.specs.States.{Devices, devices, source_state, sink_state}
use Rattle.serve_device.specs.declared.sink.ReplySpout.{ReplySpout}
use Rattle.serve_device.specs.declared.source.MessageTap.{MessageTap}
use Rattle.serve_device.specs.Spouts.{spout_gone}
use Rattle.serve_device.specs.Taps.{buffered_of, tap_gone}

-- their states as a source and a sink, and whether each says that it is gone
pub record MountEnds : Type 0 where
  pub devices : Devices
  pub input_gone : Bool
  pub output_gone : Bool

-- those of these two devices, by what the reader has left
abbrev pub ends : {R A W : Type 0} → (R → Option (List ℕ)) → MessageTap R A → ReplySpout W
    → MountEnds
ends remaining tap spout = record {
  devices = devices (source_state (reader_remaining remaining (buffered_of tap)) tap.counts)
      (sink_state None spout.counts);
  input_gone = tap_gone tap;
  output_gone = spout_gone spout;
}
