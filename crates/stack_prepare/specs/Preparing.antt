-- Images that are prepared: checked, and stacked.
use Rattle.std.specs.Prelude.{◌≡◌, ℕ, List, map}
use Rattle.romfs_format.specs.Trailer.{lists_shown, rows_shown}
use Rattle.romfs_format.specs.declared.rule.Profile.{Profile}
use Rattle.stack_model.specs.declared.owner.Owner.{Owner}
use Rattle.stack_model.specs.Listing.{Stacked, IsListing}
use Rattle.stack_prepare.specs.Layers.{AreLayers}

-- all images keep the rules of the profile, and this is the stack of their accessible bytes, with
-- the rows and lists of extended attributes that the profile reads; everything without a row
-- belongs to this owner
pub record AreStacked (profile : Profile) (owner : Owner) (images : List (List ℕ))
    (stack : Stacked) : Type 0 where
  pub layers : AreLayers profile images stack.layers
  pub rows_are : stack.rows ≡ map (rows_shown profile) images
  pub lists_are : stack.lists ≡ map (lists_shown profile) images
  pub owner_is : stack.owner ≡ owner
  pub listing : IsListing stack.layers stack.entries
