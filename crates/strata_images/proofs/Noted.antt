-- The lines of images with a trailer, as a loop over the images prints them (`trailer_of`), and as they are defined (`all_noted`).
use Rattle.std.proofs.Common.{◌≡◌, ap, refl, ℕ, ◌+◌, List, [], ◌∷◌, ◌++◌, map}
use Rattle.romfs_files.specs.declared.loaded.LoadedImage.{LoadedImage}
use Rattle.romfs_files.specs.Opening.{loaded_bytes}
use Rattle.strata_images.specs.Texts.{numbered_lines, trailer_line}

-- the line of a loaded image
abbrev pub trailer_of : {F A : Type 0} → ℕ → LoadedImage F A → List ℕ
trailer_of layer image = trailer_line layer (loaded_bytes image)

-- those of loaded images are those of their bytes
pub all_noted : {F A : Type 0} (n : ℕ) (images : List (LoadedImage F A))
    → numbered_lines (trailer_of {F = F} {A = A}) n images ≡ numbered_lines trailer_line n (map loaded_bytes images)
unfolding numbered_lines
all_noted n [] = refl
all_noted n (image ∷ images) = ap (λ text. trailer_line n (loaded_bytes image) ++ text) (all_noted (n + 1) images)
