-- What is known about the accessible bytes of a sound image.
use Rattle.std.specs.Prelude.{◌≡◌, ℕ, ◌<◌, ◌^◌, Bool, List, length, map}
use Rattle.std.specs.List.{list_all}
use Rattle.romfs_format.specs.declared.rule.Profile.TheVariants.{Usual}
use Rattle.romfs_format.specs.Fields.{word}
use Rattle.romfs_format.specs.Rules.{IsSound}

-- the accessible bytes of a sound image, alone
pub record IsImage (a : List ℕ) : Type 0 where
  pub small : length a < 2 ^ 32
  pub full : word a 8 ≡ length a
  pub sound : IsSound Usual a

-- an image as a clause sees it: its accessible bytes, with zeros where nothing is kept, and whether
-- all of them are held
pub record HeldBytes : Type 0 where
  pub bytes : List ℕ
  pub whole : Bool

-- the accessible bytes of images
abbrev pub bytes_of : List HeldBytes → List (List ℕ)
bytes_of images = map (λ (image : HeldBytes). image.bytes) images

-- all images are held in full
abbrev pub all_whole : List HeldBytes → Bool
all_whole images = list_all (λ (image : HeldBytes). image.whole) images
