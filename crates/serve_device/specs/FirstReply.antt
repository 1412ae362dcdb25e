-- linux/fuse.h, fuse_out_header.len: the reply that some bytes begin with.
use Rattle.std.specs.Prelude.{◌≡◌, ℕ, ◌≤◌, ◌⊎◌, Bool, List, length, take, Result, Ok, Err}
use Rattle.byteorder.specs.Endian.{little_number}
use Rattle.devices.specs.declared.failed.Failed.{Failed}
use Rattle.serve_device.specs.declared.answer.Answer.{Answer}
use Rattle.serve_device.specs.declared.answer.Answer.TheVariants.{Bytes, Failure}
use Rattle.serve_device.specs.declared.trouble.Trouble.{Trouble}
use Rattle.serve_device.specs.declared.trouble.Trouble.TheVariants.{Again, Unwanted, Gone, Fault}
use Rattle.serve_device.specs.Answers.{as_failed}
use Rattle.serve_device.specs.Troubles.{gone_after, write_trouble}
use Rattle.serve_device.specs.Writes.{HasWritten, WriterState}

-- the bytes begin with a complete reply of n bytes, as its first four bytes say
pub record BeginsReply (bytes : List ℕ) (n : ℕ) : Type 0 where
  pub says : little_number 4 bytes ≡ n
  pub header : 16 ≤ n
  pub whole : n ≤ length bytes

-- they do not begin with a complete reply
abbrev pub BeginsNone : List ℕ → Type 0
BeginsNone bytes = (n : ℕ) → ¬ BeginsReply bytes n

-- this many bytes are within the first reply
abbrev pub IsWithinFirst : List ℕ → ℕ → Type 0
IsWithinFirst bytes taken = (n : ℕ) × BeginsReply bytes n × (taken ≤ n)

-- the result of an error in the write of a reply of n bytes: with ENOENT no request waits for it,
-- and it counts as fully taken
abbrev pub after_trouble : ℕ → Trouble → Result ℕ Trouble
after_trouble n Unwanted = Ok n
after_trouble n Again = Err Again
after_trouble n Gone = Err Gone
after_trouble n Fault = Err Fault

-- the result of the write of a reply of n bytes
abbrev pub after_write : ℕ → Answer → Result ℕ Trouble
after_write n (Bytes taken) = Ok taken
after_write n (Failure number) = after_trouble n (write_trouble number)

-- one write of the first reply was made, and the outcome is its result
pub record WritesFirst (bytes : List ℕ) (outcome : Result ℕ Trouble)
    (old new : WriterState) : Type 0 where
  pub n : ℕ
  pub begins : BeginsReply bytes n
  pub answer : Answer
  pub wrote : HasWritten (take n bytes) answer old new
  pub outcome_is : outcome ≡ after_write n answer

-- the bytes begin with no reply, and no write was made
pub record WritesNone (bytes : List ℕ) (outcome : Result ℕ Trouble)
    (old new : WriterState) : Type 0 where
  pub begins : BeginsNone bytes
  pub kept : new ≡ old
  pub outcome_is : outcome ≡ Err Fault

-- the call of a writer with these bytes, and the result
abbrev pub Writes : List ℕ → Result ℕ Trouble → WriterState → WriterState → Type 0
Writes bytes outcome old new =
    WritesFirst bytes outcome old new ⊎ WritesNone bytes outcome old new

-- a push: only the outcome of its write determines what was taken and whether the sink is gone
pub record PutsReply (bytes : List ℕ) (result : Result ℕ Failed) (old new : WriterState)
    (was_gone is_gone : Bool) : Type 0 where
  pub outcome : Result ℕ Trouble
  pub writes : Writes bytes outcome old new
  pub gone : is_gone ≡ gone_after was_gone outcome
  pub result_is : result ≡ as_failed outcome
