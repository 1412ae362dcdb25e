-- read(2), write(2), accept(2): what calls of a device change in its counts.
use Rattle.std.specs.Prelude.{ℕ, ◌+◌, ◌-◌, ◌^◌, ◌==◌, min, Result, Ok, Err, Some, None, if◌then◌else◌}
use Rattle.devices.specs.declared.failed.Failed.{Failed}
use Rattle.devices.specs.declared.counts.LastPull.TheVariants.{Bytes, End, Failure}
use Rattle.devices.specs.declared.counts.Pulls.{Pulls}
use Rattle.devices.specs.declared.counts.Pushes.{Pushes}
use Rattle.devices.specs.declared.counts.Accepts.{Accepts}

-- the sum, held at 2^64 - 1
abbrev pub held_sum : ℕ → ℕ → ℕ
held_sum a b = min (a + b) (2 ^ 64 - 1)

-- one more, held at 2^64 - 1
abbrev pub up : ℕ → ℕ
up n = held_sum n 1

-- the counts of a source that was never pulled
abbrev pub no_pulls : Pulls
no_pulls = record { pulls = 0; ends = 0; failures = 0; last = None }

-- the counts of a sink to which nothing was pushed
abbrev pub no_pushes : Pushes
no_pushes = record { flushes = 0; failures = 0; unflushed = 0 }

-- the counts of a source after a pull: one that gives no byte met the end
abbrev pub pulled : Pulls → Result ℕ Failed → Pulls
pulled p (Ok n) = record {
  pulls = up p.pulls;
  ends = if n == 0 then up p.ends else p.ends;
  failures = p.failures;
  last = if n == 0 then Some End else Some (Bytes n);
}
pulled p (Err e) =
    record { pulls = up p.pulls; ends = p.ends; failures = up p.failures; last = Some Failure }

-- the failures of a sink that took n of this many bytes: taking none of some is a failure
abbrev pub failures_after : ℕ → ℕ → ℕ → ℕ
failures_after failures size n =
    if n == 0 then (if size == 0 then failures else up failures) else failures

-- the counts of a sink after a push of this many bytes
abbrev pub pushed : Pushes → ℕ → Result ℕ Failed → Pushes
pushed p size (Ok n) = record {
  flushes = p.flushes;
  failures = failures_after p.failures size n;
  unflushed = held_sum p.unflushed n;
}
pushed p size (Err e) =
    record { flushes = p.flushes; failures = up p.failures; unflushed = p.unflushed }

-- the counts of a sink after a flush
abbrev pub flushed : Pushes → Result (Unit {0}) Failed → Pushes
flushed p (Ok u) = record { flushes = up p.flushes; failures = p.failures; unflushed = 0 }
flushed p (Err e) =
    record { flushes = up p.flushes; failures = up p.failures; unflushed = p.unflushed }

-- the counts before the first accept
abbrev pub no_accepts : Accepts
no_accepts = record { clients = 0; failures = 0 }

-- the counts after one more accept
abbrev pub accepted : {X : Type 0} → Accepts → Result X Failed → Accepts
accepted a (Ok client) = record { clients = up a.clients; failures = a.failures }
accepted a (Err e) = record { clients = a.clients; failures = up a.failures }
