-- What a check leaves behind: the sizes of good images in the output, or the fault of the first
-- that is not good.
use Rattle.std.specs.Prelude.{◌≡◌, ◌<◌, ◌≤◌, ◌⊎◌, ℕ, true, List, ◌∷◌, ◌++◌, length, map, All}
use Rattle.romfs_format.specs.declared.rule.Profile.{Profile}
use Rattle.romfs_format.specs.declared.rule.ImageFault.{ImageFault}
use Rattle.romfs_format.specs.Fields.{image}
use Rattle.romfs_format.specs.Rules.{IsFault, IsSound}
use Rattle.devices.specs.States.{SinkState}
use Rattle.stack_model.specs.declared.limits.TheConstants.{MAX_LAYERS}
use Rattle.strata_words.specs.declared.options.Line.{Line}
use Rattle.strata_images.specs.declared.faults.ImagesFault.{ImagesFault}
use Rattle.strata_images.specs.declared.faults.ImagesFault.TheVariants.{Broken, Layers, Write, Memory}
use Rattle.strata_images.specs.Images.{profile_of}
use Rattle.strata_images.specs.Lines.{AreLost, ArePut}
use Rattle.strata_images.specs.Texts.{size_lines}

-- the bytes of this image break a rule of the profile, or memory ran out
abbrev pub IsImageFault : Profile → ℕ → List ℕ → ImagesFault → Type 0
IsImageFault profile n b fault =
    ((f : ImageFault) × (fault ≡ Broken n f) × IsFault profile b f.rule f.place)
    ⊎ (fault ≡ Memory)

-- these images all keep the rules of the profile, and these are their sizes
pub record AreSizes (profile : Profile) (images : List (List ℕ)) (sizes : List ℕ) : Type 0 where
  pub sound : All (IsSound profile) images
  pub sizes_are : sizes ≡ map (λ b. length (image b)) images

-- the images before this one are good, and this is why it was refused
pub record IsFirstRefused (profile : Profile) (images : List (List ℕ))
    (fault : ImagesFault) : Type 0 where
  pub before : List (List ℕ)
  pub after : List (List ℕ)
  pub bytes : List ℕ
  pub images_are : images ≡ before ++ bytes ∷ after
  pub sound : All (IsSound profile) before
  pub refused : IsImageFault profile (length before) bytes fault

-- why images were refused: the fault of the first that is broken, or memory ran out
abbrev pub IsFirstFault : Profile → List (List ℕ) → ImagesFault → Type 0
IsFirstFault profile images fault = IsFirstRefused profile images fault ⊎ (fault ≡ Memory)

-- images keep the rules of a line, and these are their sizes; if the line accepts what a mount
-- does, there are at most 128
pub record AreAccepted (line : Line) (images : List (List ℕ)) (sizes : List ℕ) : Type 0 where
  pub sizes_are : AreSizes (profile_of line) images sizes
  pub few : line.as_mounted ≡ true → length images ≤ MAX_LAYERS

-- a line accepts what a mount does, and has more images
pub record AreTooMany (line : Line) (images : List (List ℕ)) (fault : ImagesFault) : Type 0 where
  pub asked : line.as_mounted ≡ true
  pub many : MAX_LAYERS < length images
  pub told : fault ≡ Layers (length images)

-- one of the images is at fault, or their number, or memory ran out
abbrev pub AreNotAccepted : Line → List (List ℕ) → ImagesFault → Type 0
AreNotAccepted line images fault =
    IsFirstFault (profile_of line) images fault ⊎ AreTooMany line images fault

-- these images are good, and the output gained a line with the size of each, and was flushed
pub record AreGood (line : Line) (images : List (List ℕ)) (old new : SinkState) : Type 0 where
  pub sizes : List ℕ
  pub accepted : AreAccepted line images sizes
  pub put : ArePut (size_lines 0 sizes) old new

-- these images are good, but the output failed while the lines of their sizes were written
pub record AreUntold (line : Line) (images : List (List ℕ)) (fault : ImagesFault)
    (old new : SinkState) : Type 0 where
  pub told : fault ≡ Write
  pub sizes : List ℕ
  pub accepted : AreAccepted line images sizes
  pub lost : AreLost (size_lines 0 sizes) old new

-- a check stopped: for the images or memory, and the output is unchanged; or the output failed
abbrev pub AreNotGood : Line → List (List ℕ) → ImagesFault → SinkState → SinkState → Type 0
AreNotGood line images fault old new =
    (AreNotAccepted line images fault × (new ≡ old)) ⊎ AreUntold line images fault old new
