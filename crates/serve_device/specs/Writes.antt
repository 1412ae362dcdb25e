-- write(2) on /dev/fuse: what a contract sees of a writer and of its last write.
use Rattle.std.specs.Prelude.{◌≡◌, ℕ, List, length, take, Option, Some}
use Rattle.std.specs.Io.KnownBytes.{Appends, Keeps}
use Rattle.devices.specs.Counting.{up}
use Rattle.serve_device.specs.declared.answer.Answer.{Answer}
use Rattle.serve_device.specs.declared.answer.Answer.TheVariants.{Bytes, Failure}
use Rattle.serve_device.specs.declared.noted_writer.NotedWriter.{NotedWriter}

-- what it holds, if that is known, how many writes were made, how many bytes the last was given,
-- and its result
pub record WriterState : Type 0 where
  pub held : Option (List ℕ)
  pub writes : ℕ
  pub offered : ℕ
  pub last : Option Answer

-- the same, from its parts
abbrev pub writer_state : Option (List ℕ) → ℕ → ℕ → Option Answer → WriterState
writer_state held writes offered last =
    record { held = held; writes = writes; offered = offered; last = last }

-- that of a writer, by what its inner one holds
abbrev pub noted_writer : {W : Type 0} → (W → Option (List ℕ)) → NotedWriter W → WriterState
noted_writer contents writer =
    writer_state (contents writer.writer) writer.writes writer.offered writer.last

-- its inner writer
abbrev pub inner_writer : {W : Type 0} → NotedWriter W → W
inner_writer writer = writer.writer

-- a writer took this many first bytes, or none if the write failed
abbrev pub AnswerAppends : Option (List ℕ) → Option (List ℕ) → Answer → List ℕ → Type 0
AnswerAppends old new (Bytes n) bytes = Appends old new (take n bytes)
AnswerAppends old new (Failure number) bytes = Keeps old new

-- one write was made, which was given all of these bytes, with this result
pub record HasWritten (bytes : List ℕ) (answer : Answer) (old new : WriterState) : Type 0 where
  pub counted : new.writes ≡ up old.writes
  pub offered : new.offered ≡ length bytes
  pub last : new.last ≡ Some answer
  pub held : AnswerAppends old.held new.held answer bytes
