-- read(2), write(2) on /dev/fuse: the result of a call.
use Rattle.std.specs.Prelude.{ℕ, Bool, true, false, Result, Ok, Err}
use Rattle.std.specs.IoError.{raw_os_error}
use Rattle.std.specs.declared.io.Error.{Error}
use Rattle.devices.specs.declared.failed.Failed.{Failed}
use Rattle.serve_device.specs.declared.answer.Answer.{Answer}
use Rattle.serve_device.specs.declared.answer.Answer.TheVariants.{Bytes, Failure}
use Rattle.serve_device.specs.declared.trouble.Trouble.{Trouble}
use Rattle.serve_device.specs.declared.trouble.Trouble.TheVariants.{Again, Unwanted, Gone, Fault}
use Rattle.serve_device.specs.Troubles.{read_trouble}

-- the answer of a call with this result
abbrev pub answer_of : Result ℕ Error → Answer
answer_of (Ok n) = Bytes n
answer_of (Err error) = Failure (raw_os_error error)

-- an error after which the call must be tried again
abbrev pub is_again : Trouble → Bool
is_again Again = true
is_again Unwanted = false
is_again Gone = false
is_again Fault = false

-- a read was interrupted, and must be tried again
abbrev pub asks_again : Answer → Bool
asks_again (Bytes n) = false
asks_again (Failure number) = is_again (read_trouble number)

-- the outcome, as a device reports it
abbrev pub as_failed : Result ℕ Trouble → Result ℕ Failed
as_failed (Ok n) = Ok n
as_failed (Err trouble) = Err (record {})
