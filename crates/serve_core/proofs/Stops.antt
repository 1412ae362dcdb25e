-- What an end of serving means: if it is `Ok`, so was the stream's; if it is a refusal of images, it is not that of a stream, and it is
-- that of one refusal only. Images that were not held are refused (`refused`).
use Rattle.std.proofs.Common.{◌≡◌, ◌∙◌, sym, ap, subst, ℕ, List, Result, Ok, Err, IfErr, IsErrAnd}
use Rattle.romfs_format.specs.declared.rule.ImageFault.{ImageFault}
use Rattle.romfs_format.specs.declared.rule.Profile.{Profile}
use Rattle.stack_prepare.specs.Layers.{AreRefused}
use Rattle.stack_prepare.specs.declared.refusal.Refusal.{Refusal}
use Rattle.stack_prepare.specs.declared.refusal.Refusal.TheVariants as refusals
use Rattle.serve_loop.specs.declared.done.Done.{Done}
use Rattle.serve_loop.specs.declared.stream_fault.StreamFault.{StreamFault}
use Rattle.serve_loop.specs.declared.stream_fault.StreamFault.TheVariants as faults
use Rattle.serve_core.specs.declared.stop.Stop.{Stop}
use Rattle.serve_core.specs.declared.stop.Stop.TheVariants.{Layer, Layers}
use Rattle.serve_core.specs.Stops.{IsRefusal, stop_of_fault, stop_of_refusal, told}

-- two results that are stops have one stop
pub same_stop : {A : Type 0} {a b : Stop} → (let result : Result (Done A) Stop = Err a in result ≡ Err b) → a ≡ b
same_stop e = cc

-- if serving came to an end, the stream did
pub ended_well : {A : Type 0} (done : Done A) (ended : Result (Done A) StreamFault) → Ok done ≡ told ended → ended ≡ Ok done
ended_well done (Ok other) e = cc
ended_well done (Err fault) e = absurd (cc)

-- a fault of a stream is no refusal of images
not_many : (count : ℕ) (fault : StreamFault) → ¬ (Layers count ≡ stop_of_fault fault)
not_many count (faults.BadLength at len) e = absurd (cc)
not_many count (faults.CutOff at) e = absurd (cc)
not_many count faults.Read e = absurd (cc)
not_many count faults.Write e = absurd (cc)
not_many count faults.Turns e = absurd (cc)
not_many count faults.Memory e = absurd (cc)

not_broken : (layer : ℕ) (broken : ImageFault) (fault : StreamFault) → ¬ (Layer layer broken ≡ stop_of_fault fault)
not_broken layer broken (faults.BadLength at len) e = absurd (cc)
not_broken layer broken (faults.CutOff at) e = absurd (cc)
not_broken layer broken faults.Read e = absurd (cc)
not_broken layer broken faults.Write e = absurd (cc)
not_broken layer broken faults.Turns e = absurd (cc)
not_broken layer broken faults.Memory e = absurd (cc)

-- nor is the end of a stream
pub never_many : {A : Type 0} (count : ℕ) (ended : Result (Done A) StreamFault) → ¬ (Err (Layers count) ≡ told ended)
never_many count (Ok done) e = absurd (cc)
never_many count (Err fault) e = not_many count fault (same_stop e)

pub never_broken : {A : Type 0} (layer : ℕ) (broken : ImageFault) (ended : Result (Done A) StreamFault)
    → ¬ (Err (Layer layer broken) ≡ told ended)
never_broken layer broken (Ok done) e = absurd (cc)
never_broken layer broken (Err fault) e = not_broken layer broken fault (same_stop e)

-- a wrong number of images is reported only for that number
pub many_told : (count : ℕ) (refusal : Refusal) → Layers count ≡ stop_of_refusal refusal → refusal ≡ refusals.Layers count
many_told count (refusals.Layers n) e = cc
many_told count (refusals.Layer layer fault) e = absurd (cc)
many_told count refusals.Memory e = absurd (cc)

-- a broken image is reported only for that image and its fault
pub broken_told : (layer : ℕ) (broken : ImageFault) (refusal : Refusal) → Layer layer broken ≡ stop_of_refusal refusal
    → refusal ≡ refusals.Layer layer broken
broken_told layer broken (refusals.Layer n fault) e = cc
broken_told layer broken (refusals.Layers count) e = absurd (cc)
broken_told layer broken refusals.Memory e = absurd (cc)

-- where a stream ended, serving tells its end
pub told_well : {A : Type 0} (done : Done A) (ended : Result (Done A) StreamFault) (result : Result (Done A) Stop) → ended ≡ Ok done
    → result ≡ Ok done → result ≡ told ended
told_well done (Ok other) result e r = cc
told_well done (Err fault) result e r = absurd (cc)

-- where it stopped, serving tells its fault
pub told_fault : {A : Type 0} (fault : StreamFault) (ended : Result (Done A) StreamFault) (result : Result (Done A) Stop)
    → ended ≡ Err fault → IsErrAnd result (λ stop. stop ≡ stop_of_fault fault) → result ≡ told ended
told_fault fault ended (Ok done) e r = absurd r
told_fault fault ended (Err stop) e r = ap Err r ∙ ap told (sym e)

-- why images were not held is why they are refused, by each profile
pub refused : {X Y : Type 0} (profile : Profile) (images : List (List ℕ)) (refusal : Refusal) (ended : Result Y Refusal)
    (told : Result X Stop) → ended ≡ Err refusal → ((by : Profile) → IfErr ended (λ why. AreRefused by images why))
    → IsErrAnd told (λ stop. stop ≡ stop_of_refusal refusal) → IfErr told (IsRefusal profile images)
refused profile images refusal ended (Ok x) was why is = tt
refused profile images refusal ended (Err stop) was why is = record {
  refusal = refusal;
  stop_is = is;
  refused = subst (λ result. IfErr result (λ r. AreRefused profile images r)) was (why profile);
}
