-- What a list leaves behind: a line in the output for each path that a stack shows.
use Rattle.std.specs.Prelude.{◌≡◌, ◌⊎◌, ℕ, List}
use Rattle.romfs_format.specs.declared.rule.Profile.{Profile}
use Rattle.stack_model.specs.declared.owner.TheConstants.Owner.{ROOT}
use Rattle.stack_model.specs.Listing.{Stacked}
use Rattle.devices.specs.States.{SinkState}
use Rattle.stack_prepare.specs.Preparing.{AreStacked}
use Rattle.node_list.specs.declared.walk.ListFault.TheVariants as list
use Rattle.node_list.specs.Faults.{Lists, IsBrokenOff}
use Rattle.strata_images.specs.declared.faults.ImagesFault.{ImagesFault}
use Rattle.strata_images.specs.declared.faults.ImagesFault.TheVariants.{Memory, Write}
use Rattle.strata_images.specs.Images.{AreNotStacked}

-- the images are good, and the output gained a line for each path that their stack shows; all are
-- flushed. Owners are not listed
pub record IsStackListed (profile : Profile) (images : List (List ℕ))
    (old new : SinkState) : Type 0 where
  pub stack : Stacked
  pub stacked : AreStacked profile ROOT images stack
  pub listed : Lists stack old new

-- the images are good, but the output failed while the lines of their paths were written
pub record IsListLost (profile : Profile) (images : List (List ℕ)) (fault : ImagesFault)
    (old new : SinkState) : Type 0 where
  pub told : fault ≡ Write
  pub stack : Stacked
  pub stacked : AreStacked profile ROOT images stack
  pub broken : IsBrokenOff stack old new list.Write

-- a list stopped: the images are not stacked, or memory ran out, and the output is unchanged; or
-- the output failed
abbrev pub IsNotListed : Profile → List (List ℕ) → ImagesFault → SinkState → SinkState → Type 0
IsNotListed profile images fault old new =
    ((AreNotStacked profile images fault ⊎ (fault ≡ Memory)) × (new ≡ old))
    ⊎ IsListLost profile images fault old new
