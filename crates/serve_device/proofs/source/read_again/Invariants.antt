use Rattle.std.proofs.Common.{◌≡◌, ◌≤◌, ◌⊎◌}
use Rattle.std.specs.Io.KnownBytes.{Keeps}
use Rattle.devices.specs.Counting.{held_sum}
use Rattle.serve_device.specs.Reads.{noted_reader}
use Rattle.serve_device.proofs.Retries.{WasInterrupted}
use Rattle.serve_device.proofs.source.read_again.Given as goal

-- no byte is read yet, and each read so far was interrupted
abbrev pub invariant-loop : goal.invariant-loop
invariant-loop g l =
    Keeps (g.R.Read.remaining l.initial.reader.reader) (g.R.Read.remaining l.reader.reader)
    × (l.counter ≤ 1024)
    × (l.reader.reads ≡ held_sum l.initial.reader.reads l.counter)
    × (l.reader.settled ≡ l.initial.reader.settled)
    × ((l.counter ≡ 0) ⊎ WasInterrupted (noted_reader g.R.Read.remaining l.reader))
