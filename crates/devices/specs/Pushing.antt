-- What pushing bytes to a sink until all are taken does.
use Rattle.std.specs.Prelude.{◌≡◌, ℕ, ◌+◌, ◌≤◌, ◌⊎◌, List, [], ◌++◌, length, Option, Result, Ok, Err}
use Rattle.std.specs.Io.KnownBytes.{Appends}
use Rattle.devices.specs.declared.failed.Failed.{Failed}
use Rattle.devices.specs.declared.counts.Pushes.{Pushes}
use Rattle.devices.specs.States.{SinkState}

-- the bytes held, if they are known, grew by the first of some bytes, and by nothing else
pub record GainsFront (bytes : List ℕ) (old new : Option (List ℕ)) : Type 0 where
  pub put : List ℕ
  pub more : List ℕ
  pub front : bytes ≡ put ++ more
  pub gained : Appends old new put

-- the bytes put, which are the first of some bytes, went to a sink; no byte but these is newly
-- unflushed, and there was one flush at most
pub record PutsFront (bytes put : List ℕ) (old new : SinkState) : Type 0 where
  pub more : List ℕ
  pub front : bytes ≡ put ++ more
  pub held : Appends old.held new.held put
  pub late : new.counts.unflushed ≤ old.counts.unflushed + length put
  pub once : new.counts.flushes ≤ old.counts.flushes + 1

-- the sink took these bytes without a failure, and has flushed them, if there were any
pub record HasFlushed (put : List ℕ) (before after : Pushes) : Type 0 where
  pub failures : after.failures ≡ before.failures
  pub flushed : ((put ≡ []) × (after.unflushed ≡ before.unflushed)) ⊎ (after.unflushed ≡ 0)

-- all bytes were put without a failure, or the sink failed once more; there was no flush
abbrev pub IsPushed : List ℕ → List ℕ → Pushes → Pushes → Result (Unit {0}) Failed → Type 0
IsPushed bytes put before after (Ok u) =
    (put ≡ bytes) × (after.failures ≡ before.failures) × (after.flushes ≡ before.flushes)
IsPushed bytes put before after (Err e) =
    (after.failures ≡ before.failures + 1) × (after.flushes ≡ before.flushes)

-- all bytes were put and flushed without a failure, or the sink failed once more
abbrev pub IsHandedOn : List ℕ → List ℕ → Pushes → Pushes → Result (Unit {0}) Failed → Type 0
IsHandedOn bytes put before after (Ok u) = (put ≡ bytes) × HasFlushed put before after
IsHandedOn bytes put before after (Err e) = after.failures ≡ before.failures + 1

-- the first of the bytes went to a sink: all of them without a failure, or some before it failed;
-- there was no flush
abbrev pub PushesAll : List ℕ → SinkState → SinkState → Result (Unit {0}) Failed → Type 0
PushesAll bytes old new result =
    (put : List ℕ) × PutsFront bytes put old new × IsPushed bytes put old.counts new.counts result

-- the first of the bytes went to a sink: all of them, flushed, or some before it failed
abbrev pub HandsOn : List ℕ → SinkState → SinkState → Result (Unit {0}) Failed → Type 0
HandsOn bytes old new result =
    (put : List ℕ) × PutsFront bytes put old new × IsHandedOn bytes put old.counts new.counts result

-- a call counts its failure: if it succeeds, there is no new failure, and no more bytes wait for a
-- flush; if it fails, there is one more
abbrev pub Settles : {X E : Type 0} → Result X E → SinkState → SinkState → Type 0
Settles (Ok x) old new =
    (new.counts.failures ≡ old.counts.failures) × (new.counts.unflushed ≤ old.counts.unflushed)
Settles (Err e) old new = new.counts.failures ≡ old.counts.failures + 1
