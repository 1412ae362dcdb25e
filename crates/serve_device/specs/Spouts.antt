-- write(2) on /dev/fuse: what a contract sees of a sink of replies besides its counts.
use Rattle.std.specs.Prelude.{ℕ, Bool, List, Option}
use Rattle.serve_device.specs.declared.sink.ReplySpout.{ReplySpout}
use Rattle.serve_device.specs.Writes.{WriterState, inner_writer, noted_writer}

-- whether it says that it is gone
abbrev pub spout_gone : {W : Type 0} → ReplySpout W → Bool
spout_gone spout = spout.gone

-- its writer
abbrev pub writer_of : {W : Type 0} → ReplySpout W → W
writer_of spout = inner_writer spout.writer

-- what its writer holds, how many writes were made, how many bytes the last was given, and its
-- result
abbrev pub spout_writer : {W : Type 0} → (W → Option (List ℕ)) → ReplySpout W → WriterState
spout_writer contents spout = noted_writer contents spout.writer
