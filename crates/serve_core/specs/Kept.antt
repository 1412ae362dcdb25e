-- Images that stay in their files, what was gathered from each, and the stacks of both.
use Rattle.std.specs.Prelude.{◌≡◌, ◌⊎◌, ℕ, List, false, map}
use Rattle.std.specs.List.{AllZip}
use Rattle.devices.specs.Sources.{Source, IfShown}
use Rattle.romfs_format.specs.Fields.{image}
use Rattle.romfs_format.specs.declared.rule.Profile.{Profile}
use Rattle.romfs_format.specs.Profiles.{reads_attributes}
use Rattle.romfs_kept.specs.Gathered.{IsGatheredOf, IsGatheredWithTrailerOf}
use Rattle.stack_model.specs.declared.owner.Owner.{Owner}
use Rattle.stack_model.specs.Listing.{Stacked}
use Rattle.stack_prepare.specs.Preparing.{AreStacked}
use Rattle.fuse_wire.specs.Requests.{Asked}
use Rattle.reply_model.specs.declared.session.Session.{Session}
use Rattle.reply_model.specs.Moves.{moves}
use Rattle.reply_model.specs.Readings.{Sourced, IsReplyOver, IsRightOver}
use Rattle.reply_model.specs.Replies.{reply}

-- this was gathered from the image for a profile: with its trailer; or without, if the profile
-- reads no attributes
abbrev pub WasGatheredFor : Profile → List ℕ → List ℕ → Type 0
WasGatheredFor profile b a =
    IsGatheredWithTrailerOf b a ⊎ ((reads_attributes profile ≡ false) × IsGatheredOf b a)

-- each of these was gathered so from the image at its position
abbrev pub WereGatheredFor : Profile → List (List ℕ) → List (List ℕ) → Type 0
WereGatheredFor profile images kept = AllZip (WasGatheredFor profile) images kept

-- the same stack over the accessible bytes of these images
abbrev pub over : List (List ℕ) → Stacked → Stacked
over images stack = record stack { layers = map image images }

-- the first is the stack of what was gathered from these images, the second that of the images
pub record AreStacksOf (images : List (List ℕ)) (gathered whole : Stacked) : Type 0 where
  pub profile : Profile
  pub owner : Owner
  pub kept : List (List ℕ)
  pub kept_are : WereGatheredFor profile images kept
  pub of_kept : AreStacked profile owner kept gathered
  pub of_images : AreStacked profile owner images whole

-- this was gathered from a source for a profile: from whatever bytes the source shows
abbrev pub WasGatheredFrom : Profile → Source → List ℕ → Type 0
WasGatheredFrom profile source a = IfShown source (λ b. WasGatheredFor profile b a)

-- each of these was gathered so from the source at its position
abbrev pub WereGatheredFrom : Profile → List Source → List (List ℕ) → Type 0
WereGatheredFrom profile sources kept = AllZip (WasGatheredFrom profile) sources kept

-- the images are good; over their stack each reply is the one that is defined, or EIO if the source
-- of its data may lack them, and the same lookups are moved
pub record AreServedAs (profile : Profile) (owner : Owner) (by : Sourced)
    (images : List (List ℕ)) : Type 0 where
  pub good : AreStacked profile owner images (over images by.stack)
  pub told : (s : Session) (q : Asked) (bytes : List ℕ) → IsReplyOver by s q bytes
      → IsRightOver by (reply (over images by.stack) s q) q bytes
  pub moved : (s : Session) (q : Asked) → moves by.stack s q ≡ moves (over images by.stack) s q
