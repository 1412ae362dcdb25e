-- How many images a check accepts: `accepted` adds the number to the sizes of good images, `not_accepted` says the same about the first
-- that is not good.
use Rattle.std.proofs.Common.{◌≡◌, ◌≤◌, ℕ, List, length, inl, true, Result, Ok, Err, IfOk, IfErr}
use Rattle.std.specs.declared.vec.Vec.{Vec}
use Rattle.stack_model.specs.declared.limits.TheConstants.{MAX_LAYERS}
use Rattle.strata_words.specs.declared.options.Line.{Line}
use Rattle.strata_images.specs.declared.faults.ImagesFault.{ImagesFault}
use Rattle.strata_images.specs.Checking.{AreAccepted, AreNotAccepted, AreSizes, IsFirstFault}
use Rattle.strata_images.specs.Images.{profile_of}

pub accepted : {A : Type 0} (line : Line) (images : List (List ℕ)) (r : Result (Vec ℕ A) ImagesFault)
    → (line.as_mounted ≡ true → length images ≤ MAX_LAYERS)
    → IfOk r (λ sizes. AreSizes (profile_of line) images sizes.items) → IfOk r (λ sizes. AreAccepted line images sizes.items)
accepted line images (Ok sizes) few are = record { sizes_are = are; few = few }
accepted line images (Err fault) few are = tt

pub not_accepted : {X : Type 0} (line : Line) (images : List (List ℕ)) (r : Result X ImagesFault)
    → IfErr r (λ fault. IsFirstFault (profile_of line) images fault) → IfErr r (AreNotAccepted line images)
not_accepted line images (Ok x) first = tt
not_accepted line images (Err fault) first = inl first
