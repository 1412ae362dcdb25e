-- With which status the readers of a line end (`ends_alike`).
use Rattle.std.proofs.Common.{◌≡◌, refl, Bool, true, false}
use Rattle.serve_loop.specs.declared.stream_fault.StreamFault.{StreamFault}
use Rattle.serve_loop.specs.declared.stream_fault.StreamFault.TheVariants as stops
use Rattle.serve_device.specs.Ends.{end_of_stop}
use Rattle.strata.specs.declared.faults.Fault.TheVariants.{Stopped}
use Rattle.strata.specs.Mounts.{status_on_device}
use Rattle.strata.specs.Readers.{status_of_end}

-- readers end with the status of one alone
pub ends_alike : (stop : StreamFault) (input output : Bool)
    → status_of_end (end_of_stop stop input output) ≡ status_on_device (Stopped stop) input output
ends_alike (stops.BadLength at len) input output = refl
ends_alike (stops.CutOff at) input output = refl
ends_alike stops.Turns input output = refl
ends_alike stops.Memory input output = refl
ends_alike stops.Read true output = refl
ends_alike stops.Read false output = refl
ends_alike stops.Write true output = refl
ends_alike stops.Write false true = refl
ends_alike stops.Write false false = refl
