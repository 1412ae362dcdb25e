-- What is read from files, some of whose bytes are known.
use Rattle.std.specs.Prelude.{◌≡◌, ℕ, List, Option, None, IfSome, All}
use Rattle.std.specs.declared.vec.Vec.{Vec}
use Rattle.devices.specs.Sources.{IfShown}
use Rattle.romfs_held.specs.declared.image.HeldImage.{HeldImage}
use Rattle.romfs_held.specs.declared.image.HeldImage.TheVariants.{Kept, Whole}
use Rattle.romfs_files.specs.declared.image_data.ImageData.{ImageData}
use Rattle.romfs_files.specs.declared.loaded.LoadedImage.{LoadedImage}
use Rattle.romfs_files.specs.declared.loaded.Loading.{Loading}
use Rattle.romfs_files.specs.declared.loaded.Loading.TheVariants as how
use Rattle.romfs_files.specs.declared.loaded.Trailers.{Trailers}
use Rattle.romfs_files.specs.Data.{source_of}
use Rattle.romfs_files.specs.Loaded.{IsOpenOver}

-- it was read from some file, in this relation to the file
pub record IsOfFile {F X : Type 0} (is_read : F → X → Type 0) (x : X) : Type 0 where
  pub file : F
  pub read : is_read file x

-- these are the bytes of a file, if those are known
abbrev pub AreBytesOf : {A : Type 0} → Option (List ℕ) → Vec ℕ A → Type 0
AreBytesOf known bytes = IfSome known (λ xs. bytes.items ≡ xs)

-- the image of a file with these known bytes is open, with its trailer or without; the bytes that
-- its data show, if they show any, are those of the file
pub record IsOpenOf {F A : Type 0} (known : Option (List ℕ)) (trailers : Trailers)
    (image : LoadedImage F A) : Type 0 where
  pub source : ImageData F A
  pub shown_are : IfShown (source_of source) (λ seen. IfSome known (λ xs. seen ≡ xs))
  pub over : IsOpenOver source trailers image

-- all bytes of a file's image are held: those of the file, if they are known
abbrev pub IsWholeOf : {A : Type 0} → Option (List ℕ) → HeldImage A → Type 0
IsWholeOf known (Kept kept) = ⊥
IsWholeOf known (Whole bytes) = AreBytesOf known bytes

-- the same; or what the rules look at is held, with its trailer or without
abbrev pub IsHeldWith : {A : Type 0} → Option (List ℕ) → Trailers → Trailers → HeldImage A → Type 0
IsHeldWith known trailers its (Kept kept) = its ≡ trailers
IsHeldWith known trailers its (Whole bytes) = AreBytesOf known bytes

-- the same of an image that was loaded
abbrev pub IsHeldOf : {F A : Type 0} → Option (List ℕ) → Trailers → LoadedImage F A → Type 0
IsHeldOf known trailers image = IsHeldWith known trailers image.trailers image.held

-- what is loaded from a file with these known bytes
abbrev pub IsLoadedOf : {F A : Type 0} → Option (List ℕ) → Loading → LoadedImage F A → Type 0
IsLoadedOf known how.Whole image = IsWholeOf known image.held × (image.source ≡ None)
IsLoadedOf known (how.Open trailers) image = IsOpenOf known trailers image
IsLoadedOf known (how.Gather trailers) image = IsHeldOf known trailers image × (image.source ≡ None)

-- each of these images was loaded from some file in this way
abbrev pub AreLoaded : {F A : Type 0} → (F → Option (List ℕ)) → Loading → List (LoadedImage F A)
    → Type 0
AreLoaded known loading images =
    All (IsOfFile (λ file. IsLoadedOf (known file) loading)) images
