-- The exit statuses of the program, and their reasons.
use Rattle.std.specs.Prelude.{◌≡◌, ℕ}
use Rattle.serve_loop.specs.declared.stream_fault.StreamFault.{StreamFault}
use Rattle.serve_loop.specs.declared.stream_fault.StreamFault.TheVariants as stops
use Rattle.strata_words.specs.declared.options.LineFault.{LineFault}
use Rattle.strata_words.specs.declared.options.LineFault.TheVariants as line
use Rattle.strata_images.specs.declared.faults.ImagesFault.{ImagesFault}
use Rattle.strata_images.specs.Faults.{status_of as images_status}
use Rattle.strata.specs.declared.faults.Fault.{Fault}
use Rattle.strata.specs.declared.faults.Fault.TheVariants.{Usage, RequestsFile, RepliesFile, BalancesFile, Bind, Accept, Images, InSession, Stopped}

-- the exit status when a stream stopped: 1 for its devices, 4 for its requests, 5 for memory
abbrev pub stop_status : StreamFault → ℕ
stop_status (stops.BadLength at len) = 4
stop_status (stops.CutOff at) = 4
stop_status stops.Read = 1
stop_status stops.Write = 1
stop_status stops.Turns = 4
stop_status stops.Memory = 5

-- the exit status of a fault: 1 for files and sockets, 2 for the command line; faults of images and
-- of streams have their own
abbrev pub status_of : Fault → ℕ
status_of (Usage text) = 2
status_of RequestsFile = 1
status_of RepliesFile = 1
status_of BalancesFile = 1
status_of Bind = 1
status_of Accept = 1
status_of (Images fault) = images_status fault
status_of (InSession session stop) = stop_status stop
status_of (Stopped stop) = stop_status stop

-- the fault that memory ran out
abbrev pub out_of_memory : Fault
out_of_memory = Stopped stops.Memory

-- the fault that the output failed
abbrev pub write_failed : Fault
write_failed = Stopped stops.Write

-- the fault of the program if its line was not read
abbrev pub line_told_of : LineFault → Fault
line_told_of (line.Usage text) = Usage text
line_told_of line.Memory = out_of_memory

-- the fault is one of images, for this reason
abbrev pub IsOfImages : (ImagesFault → Type 0) → Fault → Type 0
IsOfImages Is fault = (images : ImagesFault) × (fault ≡ Images images) × Is images
