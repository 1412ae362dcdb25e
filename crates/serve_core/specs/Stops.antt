-- Why serving stopped: why images were refused, or why their stream was not served to its end.
use Rattle.std.specs.Prelude.{◌≡◌, ℕ, List, Result, Ok, Err}
use Rattle.romfs_format.specs.declared.rule.Profile.{Profile}
use Rattle.stack_prepare.specs.declared.refusal.Refusal.{Refusal}
use Rattle.stack_prepare.specs.declared.refusal.Refusal.TheVariants as refusals
use Rattle.stack_prepare.specs.Layers.{AreRefused}
use Rattle.serve_loop.specs.declared.done.Done.{Done}
use Rattle.serve_loop.specs.declared.stream_fault.StreamFault.{StreamFault}
use Rattle.serve_loop.specs.declared.stream_fault.StreamFault.TheVariants as faults
use Rattle.serve_core.specs.declared.stop.Stop.{Stop}
use Rattle.serve_core.specs.declared.stop.Stop.TheVariants as stops

-- a refusal of images, as the reason why serving stopped
abbrev pub stop_of_refusal : Refusal → Stop
stop_of_refusal (refusals.Layer layer fault) = stops.Layer layer fault
stop_of_refusal (refusals.Layers count) = stops.Layers count
stop_of_refusal refusals.Memory = stops.Memory

-- a fault of a stream, as the reason why serving stopped
abbrev pub stop_of_fault : StreamFault → Stop
stop_of_fault (faults.BadLength at len) = stops.BadLength at len
stop_of_fault (faults.CutOff at) = stops.CutOff at
stop_of_fault faults.Read = stops.Read
stop_of_fault faults.Write = stops.Write
stop_of_fault faults.Turns = stops.Turns
stop_of_fault faults.Memory = stops.Memory

-- how a stream ended, as the result of serving
abbrev pub told : {A : Type 0} → Result (Done A) StreamFault → Result (Done A) Stop
told (Ok done) = Ok done
told (Err fault) = Err (stop_of_fault fault)

-- serving stopped since the images were refused, or memory ran out before their table was complete
pub record IsRefusal (profile : Profile) (images : List (List ℕ)) (stop : Stop) : Type 0 where
  pub refusal : Refusal
  pub stop_is : stop ≡ stop_of_refusal refusal
  pub refused : AreRefused profile images refusal
