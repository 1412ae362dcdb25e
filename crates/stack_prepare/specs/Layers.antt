-- Images that can be stacked as layers, and why others are refused.
use Rattle.std.specs.Prelude.{◌≡◌, ℕ, ◌<◌, ◌≤◌, ◌⊎◌, Bool, List, ◌∷◌, ◌++◌, length, map, All}
use Rattle.std.specs.List.{list_all}
use Rattle.std.specs.declared.vec.Vec.{Vec}
use Rattle.romfs_held.specs.declared.image.HeldImage.{HeldImage}
use Rattle.romfs_held.specs.Images.{held_bytes, is_whole}
use Rattle.stack_model.specs.declared.limits.TheConstants.{MAX_LAYERS}
use Rattle.romfs_format.specs.Fields.{image}
use Rattle.romfs_format.specs.Rules.{IsFault, IsSound}
use Rattle.romfs_format.specs.declared.rule.Profile.{Profile}
use Rattle.romfs_format.specs.declared.rule.ImageFault.{ImageFault}
use Rattle.stack_prepare.specs.declared.refusal.Refusal.{Refusal}
use Rattle.stack_prepare.specs.declared.refusal.Refusal.TheVariants.{Layer, Layers, Memory}

-- the bytes of images
abbrev pub contents_of : {A B : Type 0} → Vec (Vec ℕ A) B → List (List ℕ)
contents_of images = map (λ image. image.items) images.items

-- the bytes that are held of images, with zeros for what is not kept
abbrev pub held_contents : {A B : Type 0} → Vec (HeldImage A) B → List (List ℕ)
held_contents images = map held_bytes images.items

-- all images are held in full
abbrev pub are_whole : {A : Type 0} → List (HeldImage A) → Bool
are_whole images = list_all is_whole images

-- 1 to 128 layers can be stacked
abbrev pub IsFew : ℕ → Type 0
IsFew count = (1 ≤ count) × (count ≤ MAX_LAYERS)

-- all images keep the rules of the profile, and these are their accessible bytes
pub record AreLayers (profile : Profile) (images layers : List (List ℕ)) : Type 0 where
  pub few : IsFew (length images)
  pub sound : All (IsSound profile) images
  pub are : layers ≡ map image images

-- the image with this number is the lowest that breaks a rule of the profile, and this is its fault
pub record IsLowestBroken (profile : Profile) (images : List (List ℕ)) (layer : ℕ)
    (fault : ImageFault) : Type 0 where
  pub below : List (List ℕ)
  pub above : List (List ℕ)
  pub bytes : List ℕ
  pub images_are : images ≡ below ++ bytes ∷ above
  pub layer_is : layer ≡ length below
  pub sound : All (IsSound profile) below
  pub broken : IsFault profile bytes fault.rule fault.place

-- why images are refused: there are none or too many; or the lowest that is broken; or memory
-- ran out
abbrev pub AreRefused : Profile → List (List ℕ) → Refusal → Type 0
AreRefused profile images (Layers count) =
    (count ≡ length images) × ((count ≡ 0) ⊎ (MAX_LAYERS < count))
AreRefused profile images (Layer layer fault) =
    IsFew (length images) × IsLowestBroken profile images layer fault
AreRefused profile images Memory = IsFew (length images)

-- this many images are refused for their number alone
abbrev pub AreTooFewOrMany : ℕ → Refusal → Type 0
AreTooFewOrMany count refusal =
    (refusal ≡ Layers count) × ((count ≡ 0) ⊎ (MAX_LAYERS < count))
