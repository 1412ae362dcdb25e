-- How a list stopped. `list_stopped` joins the reported fault with what it left in the output, `unlisted` is the end before that; `told_on`
-- reports a fault unchanged.
use Rattle.std.proofs.Common.{◌≡◌, sym, ap, subst, refl, inl, inr, ℕ, List, [], ◌∷◌, map, Result, Ok, Err, IfErr, IsErrAnd}
use Rattle.romfs_held.specs.Images.{held_bytes}
use Rattle.romfs_files.specs.declared.loaded.LoadedImage.{LoadedImage}
use Rattle.romfs_files.specs.Opening.{loaded_bytes}
use Rattle.devices.specs.States.{SinkState}
use Rattle.romfs_format.specs.declared.rule.Profile.{Profile}
use Rattle.stack_model.specs.declared.owner.TheConstants.Owner.{ROOT}
use Rattle.stack_model.specs.Listing.{Stacked}
use Rattle.stack_prepare.specs.Preparing.{AreStacked}
use Rattle.node_list.specs.declared.walk.ListFault.{ListFault}
use Rattle.node_list.specs.declared.walk.ListFault.TheVariants.{Write, Memory}
use Rattle.node_list.specs.Faults.{IsBrokenOff}
use Rattle.strata_images.specs.declared.faults.ImagesFault.{ImagesFault}
use Rattle.strata_images.specs.declared.faults.ImagesFault.TheVariants as faults
use Rattle.strata_images.specs.Faults.{list_told_of}
use Rattle.strata_images.specs.Listing.{IsNotListed}

-- a list that stopped early did not list the stack, and its fault says why
pub list_stopped : {profile : Profile} {images : List (List ℕ)} {stack : Stacked} (old new : SinkState) (r : Result (Unit {0}) ImagesFault)
    (fault : ListFault)
    → AreStacked profile ROOT images stack → IsBrokenOff stack old new fault → IsErrAnd r (λ told. told ≡ list_told_of fault)
    → IfErr r (λ told. IsNotListed profile images told old new)
list_stopped old new (Ok u) fault s b e = absurd e
list_stopped {stack = stack} old new (Err told) Write s b e = inr (record { told = e; stack = stack; stacked = s; broken = b })
list_stopped old new (Err told) Memory s b e = inl (inr e, b)

-- memory that ran out before the images were stacked
pub unlisted : {X : Type 0} (profile : Profile) (images : List (List ℕ)) (state : SinkState) (r : Result X ImagesFault)
    → IsErrAnd r (λ told. told ≡ faults.Memory) → IfErr r (λ told. IsNotListed profile images told state state)
unlisted profile images state (Ok u) e = absurd e
unlisted profile images state (Err told) e = inl (inr e, refl)

-- a fault is reported as it came
pub told_on : {X : Type 0} (Q : ImagesFault → Type 0) (r : Result X ImagesFault) (fault : ImagesFault)
    → IsErrAnd r (λ told. told ≡ fault) → Q fault → IfErr r Q
told_on Q (Ok u) fault e q = absurd e
told_on Q (Err told) fault e q = subst Q (sym e) q

-- images taken apart keep their bytes
pub bytes_apart : {F A : Type 0} (images : List (LoadedImage F A))
    → map held_bytes (map (λ (image : LoadedImage F A). image.held) images) ≡ map loaded_bytes images
bytes_apart [] = refl
bytes_apart (image ∷ images) = ap (λ xs. loaded_bytes image ∷ xs) (bytes_apart images)
