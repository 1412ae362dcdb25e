-- read(2) on /dev/fuse: what a contract sees of a reader, of its last read, and of a pull.
use Rattle.std.specs.Prelude.{◌≡◌, ◌≤◌, ◌<◌, ℕ, ℤ, Bool, true, if◌then◌else◌, List, Option, Some, Result, Ok, Err}
use Rattle.std.specs.Io.KnownBytes.{ReadConsumes}
use Rattle.std.specs.declared.io.Error.{Error}
use Rattle.devices.specs.Counting.{held_sum, up}
use Rattle.devices.specs.declared.failed.Failed.{Failed}
use Rattle.serve_device.specs.declared.answer.Answer.{Answer}
use Rattle.serve_device.specs.declared.answer.Answer.TheVariants.{Bytes, Failure}
use Rattle.serve_device.specs.declared.noted_reader.NotedReader.{NotedReader}
use Rattle.serve_device.specs.declared.trouble.Trouble.{Trouble}
use Rattle.serve_device.specs.declared.trouble.Trouble.TheVariants.{Again, Unwanted, Gone, Fault}
use Rattle.serve_device.specs.Answers.{answer_of, as_failed, asks_again}
use Rattle.serve_device.specs.Troubles.{gone_after, read_trouble}

-- what it has left, if that is known, how many reads were made, how many of them were not
-- interrupted, and the result of the last
pub record ReaderState : Type 0 where
  pub left : Option (List ℕ)
  pub reads : ℕ
  pub settled : ℕ
  pub last : Option Answer

-- the same, from its parts
abbrev pub reader_state : Option (List ℕ) → ℕ → ℕ → Option Answer → ReaderState
reader_state left reads settled last =
    record { left = left; reads = reads; settled = settled; last = last }

-- that of a reader, by what its inner one has left
abbrev pub noted_reader : {R : Type 0} → (R → Option (List ℕ)) → NotedReader R → ReaderState
noted_reader remaining reader =
    reader_state (remaining reader.reader) reader.reads reader.settled reader.last

-- its inner reader
abbrev pub inner_reader : {R : Type 0} → NotedReader R → R
inner_reader reader = reader.reader

-- how many reads were not interrupted, after one more with this result
abbrev pub settled_after : ℕ → Answer → ℕ
settled_after settled answer = if asks_again answer then settled else up settled

-- one read was made, with this result
pub record HasRead (into : List ℕ) (result : Result ℕ Error) (old new : ReaderState)
    : Type 0 where
  pub counted : new.reads ≡ up old.reads
  pub settled : new.settled ≡ settled_after old.settled (answer_of result)
  pub last : new.last ≡ Some (answer_of result)
  pub left : ReadConsumes old.left new.left result into

-- the result of an error in the last read: if that was interrupted, all tries are spent
abbrev pub spent_trouble : Trouble → Trouble
spent_trouble Again = Fault
spent_trouble Unwanted = Unwanted
spent_trouble Gone = Gone
spent_trouble Fault = Fault

-- the result of the last read
abbrev pub after_read : Answer → Result ℕ Trouble
after_read (Bytes n) = Ok n
after_read (Failure number) = Err (spent_trouble (read_trouble number))

-- some reads were made, each but the last was interrupted, and the outcome is that of the last; if
-- that was interrupted, too, all tries are spent
pub record ReadsLast (outcome : Result ℕ Trouble) (old new : ReaderState) : Type 0 where
  pub tries : ℕ
  pub some : 0 < tries
  pub most : tries ≤ 1024
  pub counted : new.reads ≡ held_sum old.reads tries
  pub answer : Answer
  pub settled : new.settled ≡ settled_after old.settled answer
  pub spent : asks_again answer ≡ true → tries ≡ 1024
  pub last : new.last ≡ Some answer
  pub outcome_is : outcome ≡ after_read answer

-- a pull: only the outcome of its last read determines what it returned and whether the source is
-- gone
pub record PullsMessage (result : Result ℕ Failed) (old new : ReaderState)
    (was_gone is_gone : Bool) : Type 0 where
  pub outcome : Result ℕ Trouble
  pub reads : ReadsLast outcome old new
  pub gone : is_gone ≡ gone_after was_gone outcome
  pub result_is : result ≡ as_failed outcome

-- a pull failed in its last read; if that was interrupted, so was each of 1,024
pub record HasGivenUp (old new : ReaderState) : Type 0 where
  pub number : Option ℤ
  pub last : new.last ≡ Some (Failure number)
  pub spent : read_trouble number ≡ Again
      → (new.settled ≡ old.settled) × (new.reads ≡ held_sum old.reads 1024)
