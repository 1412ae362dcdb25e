-- Which faults have which status: `each_status`. A fault has one status, so it meets that one's condition, and the others require nothing.
-- `stop_of` says so of the reasons why a stream stopped, and the faults follow.
use Rattle.std.proofs.Common.{◌≡◌, ℕ, inl, inr, refl, arith}
use Rattle.serve_loop.specs.declared.stream_fault.StreamFault.{StreamFault}
use Rattle.serve_loop.specs.declared.stream_fault.StreamFault.TheVariants.{BadLength, CutOff, Read, Write, Turns, Memory}
use Rattle.strata_images.specs.declared.faults.ImagesFault.{ImagesFault}
use Rattle.strata_images.specs.declared.faults.ImagesFault.TheVariants as faults
use Rattle.strata.specs.declared.faults.Fault.{Fault}
use Rattle.strata.specs.declared.faults.Fault.TheVariants.{Usage, RequestsFile, RepliesFile, BalancesFile, Bind, Accept, Images, InSession, Stopped}
use Rattle.strata.specs.Faults.{stop_status, status_of}
use Rattle.strata.specs.Laws.{AreAtFault, IsStoppedSo, IsOfFiles, IsOfStreams, IsOfRequests, HasStatusOf}

-- ---- why a stream stopped

-- a reason that has the status 1, 4 or 5 is one of these, and none has the status 2 or 3
pub record HasStopStatusOf (stop : StreamFault) : Type 0 where
  pub streams : stop_status stop ≡ 1 → IsOfStreams stop
  pub words : stop_status stop ≡ 2 → ⊥
  pub images : stop_status stop ≡ 3 → ⊥
  pub requests : stop_status stop ≡ 4 → IsOfRequests stop
  pub memory : stop_status stop ≡ 5 → stop ≡ Memory

stop_1 : (stop : StreamFault) → stop_status stop ≡ 1 → IsOfStreams stop → HasStopStatusOf stop
stop_1 stop s is = record {
  streams = λ e. is;
  words = λ e. absurd (omega (arith, s, e));
  images = λ e. absurd (omega (arith, s, e));
  requests = λ e. absurd (omega (arith, s, e));
  memory = λ e. absurd (omega (arith, s, e));
}

stop_4 : (stop : StreamFault) → stop_status stop ≡ 4 → IsOfRequests stop → HasStopStatusOf stop
stop_4 stop s is = record {
  streams = λ e. absurd (omega (arith, s, e));
  words = λ e. absurd (omega (arith, s, e));
  images = λ e. absurd (omega (arith, s, e));
  requests = λ e. is;
  memory = λ e. absurd (omega (arith, s, e));
}

stop_5 : (stop : StreamFault) → stop_status stop ≡ 5 → stop ≡ Memory → HasStopStatusOf stop
stop_5 stop s is = record {
  streams = λ e. absurd (omega (arith, s, e));
  words = λ e. absurd (omega (arith, s, e));
  images = λ e. absurd (omega (arith, s, e));
  requests = λ e. absurd (omega (arith, s, e));
  memory = λ e. is;
}

-- each reason meets the condition of its status
pub stop_of : (stop : StreamFault) → HasStopStatusOf stop
stop_of Read = stop_1 Read refl (inl refl)
stop_of Write = stop_1 Write refl (inr refl)
stop_of (BadLength at len) = stop_4 (BadLength at len) refl (inl (at, len, refl))
stop_of (CutOff at) = stop_4 (CutOff at) refl (inr (inl (at, refl)))
stop_of Turns = stop_4 Turns refl (inr (inr refl))
stop_of Memory = stop_5 Memory refl refl

-- ---- faults

fault_1 : (fault : Fault) → status_of fault ≡ 1 → IsOfFiles fault → HasStatusOf fault
fault_1 fault s is = record {
  files = λ e. inl is;
  words = λ e. absurd (omega (arith, s, e));
  images = λ e. absurd (omega (arith, s, e));
  requests = λ e. absurd (omega (arith, s, e));
  memory = λ e. absurd (omega (arith, s, e));
}

stopped_so : (Is : StreamFault → Type 0) (stop : StreamFault) → Is stop → IsStoppedSo Is (Stopped stop)
stopped_so Is stop is = (stop, is, inl refl)

session_so : (Is : StreamFault → Type 0) (n : ℕ) (stop : StreamFault) → Is stop → IsStoppedSo Is (InSession n stop)
session_so Is n stop is = (stop, is, inr (n, refl))

fault_3 : (fault : ImagesFault) → status_of (Images fault) ≡ 3 → AreAtFault fault → HasStatusOf (Images fault)
fault_3 fault s is = record {
  files = λ e. absurd (omega (arith, s, e));
  words = λ e. absurd (omega (arith, s, e));
  images = λ e. (fault, refl, is);
  requests = λ e. absurd (omega (arith, s, e));
  memory = λ e. absurd (omega (arith, s, e));
}

-- and so does each of images
images_status : (fault : ImagesFault) → HasStatusOf (Images fault)
images_status (faults.Unread image) = fault_1 (Images (faults.Unread image)) refl (inl (faults.Unread image, refl, (image, refl)))
images_status (faults.Unsealed image) = fault_3 (faults.Unsealed image) refl (inr (inr (inl (image, refl))))
images_status (faults.Far image) = fault_3 (faults.Far image) refl (inr (inr (inr (image, refl))))
images_status (faults.Broken image fault) = fault_3 (faults.Broken image fault) refl (inl (image, fault, refl))
images_status (faults.Layers count) = fault_3 (faults.Layers count) refl (inr (inl (count, refl)))
images_status faults.Write = record {
  files = λ e. inr (inr (faults.Write, refl, refl));
  words = λ e. absurd (omega (arith, e));
  images = λ e. absurd (omega (arith, e));
  requests = λ e. absurd (omega (arith, e));
  memory = λ e. absurd (omega (arith, e));
}
images_status faults.Memory = record {
  files = λ e. absurd (omega (arith, e));
  words = λ e. absurd (omega (arith, e));
  images = λ e. absurd (omega (arith, e));
  requests = λ e. absurd (omega (arith, e));
  memory = λ e. inr (faults.Memory, refl, refl);
}

-- each fault meets the condition of its status
pub each_status : (fault : Fault) → HasStatusOf fault
each_status (Usage text) = record {
  files = λ e. absurd (omega (arith, e));
  words = λ e. tt;
  images = λ e. absurd (omega (arith, e));
  requests = λ e. absurd (omega (arith, e));
  memory = λ e. absurd (omega (arith, e));
}
each_status RequestsFile = fault_1 RequestsFile refl (inr (inl refl))
each_status RepliesFile = fault_1 RepliesFile refl (inr (inr (inl refl)))
each_status BalancesFile = fault_1 BalancesFile refl (inr (inr (inr (inl refl))))
each_status Bind = fault_1 Bind refl (inr (inr (inr (inr (inl refl)))))
each_status Accept = fault_1 Accept refl (inr (inr (inr (inr (inr refl)))))
each_status (Images fault) = images_status fault
each_status (Stopped stop) = record {
  files = λ e. inr (inl (stopped_so IsOfStreams stop ((stop_of stop).streams e)));
  words = λ e. absurd ((stop_of stop).words e);
  images = λ e. absurd ((stop_of stop).images e);
  requests = λ e. stopped_so IsOfRequests stop ((stop_of stop).requests e);
  memory = λ e. inl (stopped_so (λ s. s ≡ Memory) stop ((stop_of stop).memory e));
}
each_status (InSession n stop) = record {
  files = λ e. inr (inl (session_so IsOfStreams n stop ((stop_of stop).streams e)));
  words = λ e. absurd ((stop_of stop).words e);
  images = λ e. absurd ((stop_of stop).images e);
  requests = λ e. session_so IsOfRequests n stop ((stop_of stop).requests e);
  memory = λ e. inl (session_so (λ s. s ≡ Memory) n stop ((stop_of stop).memory e));
}
