-- How a file is read, depending on what stat(2) reports.
use Rattle.std.specs.Prelude.{◌≡◌, ◌<◌, ℕ, List, Option, None, ⊤, bit_and, map}
use Rattle.std.specs.Fs.{IsFile, file_type, metadata_len, metadata_mode}
use Rattle.std.specs.declared.fs.attrs.Metadata.{Metadata}
use Rattle.romfs_files.specs.declared.opening.TheConstants.{FILE_TYPE, BLOCK_DEVICE}
use Rattle.romfs_files.specs.declared.opening.FileKind.{FileKind}
use Rattle.romfs_files.specs.declared.opening.FileKind.TheVariants.{Regular, BlockDevice, Stream}
use Rattle.romfs_files.specs.declared.image_data.ImageData.{ImageData}
use Rattle.romfs_files.specs.declared.image_data.ImageData.TheVariants as from
use Rattle.romfs_files.specs.declared.loaded.LoadedImage.{LoadedImage}
use Rattle.romfs_files.specs.declared.loaded.Loading.{Loading}
use Rattle.romfs_files.specs.declared.loaded.Loading.TheVariants as how
use Rattle.romfs_files.specs.declared.loaded.Trailers.{Trailers}
use Rattle.std.specs.declared.vec.Vec.{Vec}
use Rattle.devices.specs.Sources.{unknown}
use Rattle.romfs_held.specs.Images.{held_bytes}
use Rattle.romfs_files.specs.Files.{AreBytesOf, IsWholeOf}
use Rattle.romfs_files.specs.Loaded.{IsKeptOf, IsOpenOver}

-- the mode is that of a block device
abbrev pub IsBlockDevice : Metadata → Type 0
IsBlockDevice m = bit_and (metadata_mode m) FILE_TYPE ≡ BLOCK_DEVICE

-- a regular file of this many bytes, at least one; or a block device; or any other file
abbrev pub IsKindOf : Metadata → FileKind → Type 0
IsKindOf m (Regular size) = IsFile (file_type m) × (size ≡ metadata_len m) × (0 < size)
IsKindOf m BlockDevice = IsBlockDevice m
IsKindOf m Stream = (IsFile (file_type m) → metadata_len m ≡ 0) × (IsBlockDevice m → ⊥)

-- the data stay in their file, without a digest
abbrev pub StayInFile : {F A : Type 0} → ImageData F A → Type 0
StayInFile (from.File file) = ⊤
StayInFile (from.Memory bytes) = ⊥
StayInFile (from.Sealed name) = ⊥

-- all bytes of the data are in memory: those of the file, if they are known
abbrev pub AreAllOf : {F A : Type 0} → Option (List ℕ) → ImageData F A → Type 0
AreAllOf known (from.File file) = ⊥
AreAllOf known (from.Memory bytes) = AreBytesOf known bytes
AreAllOf known (from.Sealed name) = ⊥

-- what the data of a file of this kind, with these known bytes, are read from
abbrev pub AreOfFile : {F A : Type 0} → FileKind → Option (List ℕ) → ImageData F A → Type 0
AreOfFile (Regular size) known source = StayInFile source
AreOfFile BlockDevice known source = StayInFile source
AreOfFile Stream known source = AreAllOf known source

-- how the image of a file of this kind, with these known bytes, is open
pub record IsOpenedAs {F A : Type 0} (kind : FileKind) (known : Option (List ℕ))
    (trailers : Trailers) (image : LoadedImage F A) : Type 0 where
  pub source : ImageData F A
  pub of_file : AreOfFile kind known source
  pub over : IsOpenOver source trailers image

-- what is held of the image of such a file: all bytes of a stream; for any other, what the rules
-- look at, by reads of which nothing is known
abbrev pub IsHeldAs : {F A : Type 0} → FileKind → Option (List ℕ) → Trailers → LoadedImage F A
    → Type 0
IsHeldAs (Regular size) known trailers image = IsKeptOf unknown trailers image
IsHeldAs BlockDevice known trailers image = IsKeptOf unknown trailers image
IsHeldAs Stream known trailers image = IsWholeOf known image.held

-- what is loaded from such a file
abbrev pub IsLoadedAs : {F A : Type 0} → FileKind → Option (List ℕ) → Loading → LoadedImage F A
    → Type 0
IsLoadedAs kind known how.Whole image = IsWholeOf known image.held × (image.source ≡ None)
IsLoadedAs kind known (how.Open trailers) image = IsOpenedAs kind known trailers image
IsLoadedAs kind known (how.Gather trailers) image =
    IsHeldAs kind known trailers image × (image.source ≡ None)

-- all bytes of an image are held: those of the file, if they are known
abbrev pub IsHeldWhole : {F A : Type 0} → Option (List ℕ) → LoadedImage F A → Type 0
IsHeldWhole known image = IsWholeOf known image.held

-- the bytes that are held of an image, and zeros where nothing is
abbrev pub loaded_bytes : {F A : Type 0} → LoadedImage F A → List ℕ
loaded_bytes image = held_bytes image.held

-- those of a list of images
abbrev pub loaded_contents : {F A B : Type 0} → Vec (LoadedImage F A) B → List (List ℕ)
loaded_contents images = map loaded_bytes images.items
