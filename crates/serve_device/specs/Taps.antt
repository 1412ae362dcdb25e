-- read(2) on /dev/fuse: what a contract sees of a source of messages besides its bytes and counts.
use Rattle.std.specs.Prelude.{ℕ, Bool, List, Option}
use Rattle.std.specs.Io.Buffered.{reader_capacity, reader_remaining}
use Rattle.std.specs.declared.io.BufReader.{BufReader}
use Rattle.serve_device.specs.declared.source.MessageTap.{MessageTap}
use Rattle.serve_device.specs.Reads.{ReaderState, inner_reader, noted_reader}

-- its buffered reader
abbrev pub buffered_of : {R A : Type 0} → MessageTap R A → BufReader R A
buffered_of tap = inner_reader tap.reader

-- its room for a message, in bytes
abbrev pub room_of : {R A : Type 0} → MessageTap R A → ℕ
room_of tap = reader_capacity (buffered_of tap)

-- whether it says that it is gone
abbrev pub tap_gone : {R A : Type 0} → MessageTap R A → Bool
tap_gone tap = tap.gone

-- what its reader has left, how many reads were made, and the result of the last
abbrev pub tap_reader : {R A : Type 0} → (R → Option (List ℕ)) → MessageTap R A → ReaderState
tap_reader remaining tap = noted_reader (reader_remaining remaining) tap.reader
