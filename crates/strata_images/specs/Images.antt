-- The images of a line, as they are held: all bytes of each, or only what the rules check, with
-- zeros for the rest.
use Rattle.std.specs.Prelude.{◌≡◌, ◌≤◌, ◌^◌, ◌⊎◌, ◌||◌, ℕ, Bool, true, false, List, [], ◌∷◌, ◌++◌, Option, Some, None, ⊤, length, map, sum, vec_len, if◌then◌else◌}
use Rattle.std.specs.declared.vec.Vec.{Vec}
use Rattle.romfs_format.specs.declared.rule.Profile.{Profile}
use Rattle.romfs_format.specs.Profiles.{profile_with}
use Rattle.devices.specs.Sources.{Source, IsSizeOf, MayGive, held, sealed}
use Rattle.devices.specs.File.{IsFileDigest}
use Rattle.romfs_seal.specs.Digests.{digest_bytes, made_by, sha}
use Rattle.romfs_seal.specs.declared.digest.Digest.{Digest}
use Rattle.romfs_files.specs.declared.image_data.ImageData.{ImageData}
use Rattle.romfs_files.specs.declared.loaded.LoadedImage.{LoadedImage}
use Rattle.romfs_files.specs.declared.loaded.Loading.{Loading}
use Rattle.romfs_files.specs.declared.loaded.Loading.TheVariants.{Whole}
use Rattle.romfs_files.specs.declared.loaded.Trailers.{Trailers}
use Rattle.romfs_files.specs.declared.loaded.Trailers.TheVariants.{Read, Left}
use Rattle.romfs_files.specs.Data.{source_of}
use Rattle.romfs_files.specs.Files.{IsHeldOf, IsOfFile}
use Rattle.romfs_files.specs.Loaded.{WasGathered}
use Rattle.romfs_files.specs.Sealing.{IsHeldUnder, IsWholeUnder, seal_by}
use Rattle.romfs_held.specs.declared.image.HeldImage.{HeldImage}
use Rattle.stack_prepare.specs.declared.refusal.Refusal.{Refusal}
use Rattle.stack_prepare.specs.declared.refusal.Refusal.TheVariants as refusals
use Rattle.stack_prepare.specs.Layers.{AreRefused, held_contents, are_whole as all_held_whole}
use Rattle.stack_prepare.specs.Preparing.{AreStacked}
use Rattle.reply_model.specs.Readings.{Sourced}
use Rattle.strata_words.specs.declared.options.Line.{Line}
use Rattle.strata_words.specs.declared.options.Verb.{Verb}
use Rattle.strata_words.specs.declared.options.Verb.TheVariants as verbs
use Rattle.strata_images.specs.declared.faults.ImagesFault.{ImagesFault}
use Rattle.strata_images.specs.declared.faults.ImagesFault.TheVariants.{Broken, Layers, Memory}

-- whether a line asks for attributes, by an option for them alone or as a mount does
abbrev pub asks_attributes : Line → Bool
asks_attributes line = line.attributes || line.as_mounted

-- the rules of a line for its images, and whether their attributes are read
abbrev pub profile_of : Line → Profile
profile_of line = profile_with line.strict (asks_attributes line)

-- whether a command reports which images have a trailer
abbrev pub reports_trailers : Verb → Bool
reports_trailers verbs.Serve = false
reports_trailers verbs.Socket = false
reports_trailers verbs.Check = true
reports_trailers verbs.List = true

-- whether the trailers of its images are read: if it asks for attributes, or reports them
abbrev pub trailers_of : Line → Trailers
trailers_of line = if asks_attributes line || reports_trailers line.verb then Read else Left

-- as many images as the line names
abbrev pub NamesAsMany : Line → List (List ℕ) → Type 0
NamesAsMany line images = length images ≡ vec_len line.images

-- each of these is in this relation to the digest in its place
abbrev pub AreEachBy : {X : Type 0} → (Option Digest → X → Type 0) → List (Option Digest)
    → List X → Type 0
AreEachBy IsBy digests [] = ⊤
AreEachBy IsBy [] (x ∷ xs) = ⊥
AreEachBy IsBy (digest ∷ digests) (x ∷ xs) = IsBy digest x × AreEachBy IsBy digests xs

-- what is held of an image: all bytes of some file, which are those known of it; or what the rules
-- read, with the trailer or without; or bytes under a digest
abbrev pub IsHeldBy : {F A : Type 0} → (F → Option (List ℕ)) → Trailers → Option Digest
    → LoadedImage F A → Type 0
IsHeldBy known trailers None image = IsOfFile (λ file. IsHeldOf (known file) trailers) image
IsHeldBy known trailers (Some digest) image =
    IsWholeUnder digest image ⊎ IsHeldUnder digest trailers image

-- this holds for the images of a line, with their trailers if it asks for attributes
abbrev pub AreHeldFor : {F A : Type 0} → Line → (F → Option (List ℕ)) → List (LoadedImage F A)
    → Type 0
AreHeldFor line known images =
    AreEachBy (IsHeldBy known (trailers_of line)) line.digests.items images

-- these data are read under the digest, if there is one
abbrev pub IsSourceBy : Option Digest → Source → Type 0
IsSourceBy None source = ⊤
IsSourceBy (Some digest) source = (size : ℕ) × (source ≡ sealed (seal_by digest size))

-- all bytes of this image were read under the digest, if there is one
abbrev pub IsImageBy : Option Digest → List ℕ → Type 0
IsImageBy None image = ⊤
IsImageBy (Some digest) image =
    (size : ℕ) × MayGive (sealed (seal_by digest size)) 0 image
    × IsSizeOf (sealed (seal_by digest size)) (length image)

-- the bytes that are held of images
abbrev pub bytes_of : {A B : Type 0} → Vec (HeldImage A) B → List (List ℕ)
bytes_of images = held_contents images

-- whether all bytes of images are held
abbrev pub are_whole : {A B : Type 0} → Vec (HeldImage A) B → Bool
are_whole images = all_held_whole images.items

-- what reads of the data of images may return
abbrev pub sources_of : {F A B : Type 0} → Vec (ImageData F A) B → List Source
sources_of files = map source_of files.items

-- the data of an image of which this is held are read from where it was gathered
abbrev pub IsDataOf : Trailers → List ℕ → Source → Type 0
IsDataOf trailers image source = WasGathered trailers source image

-- the same for those of each image
abbrev pub AreDataOf : Trailers → List (List ℕ) → List Source → Type 0
AreDataOf trailers [] [] = ⊤
AreDataOf trailers (image ∷ images) (source ∷ sources) =
    IsDataOf trailers image source × AreDataOf trailers images sources
AreDataOf trailers [] (source ∷ sources) = ⊥
AreDataOf trailers (image ∷ images) [] = ⊥

-- what is held of an image was read from this source, which is under its digest: all bytes, or what
-- the rules look at. Of a file without a digest nothing is known, and the source is what was read
abbrev pub IsReadFrom : Trailers → Option Digest → List ℕ → Source → Type 0
IsReadFrom trailers None image source = source ≡ held image
IsReadFrom trailers (Some digest) image source =
    IsSourceBy (Some digest) source
    × ((MayGive source 0 image × IsSizeOf source (length image))
    ⊎ WasGathered trailers source image)

-- the same for each image
abbrev pub AreReadFrom : Trailers → List (Option Digest) → List (List ℕ) → List Source → Type 0
AreReadFrom trailers digests [] [] = ⊤
AreReadFrom trailers digests [] (source ∷ sources) = ⊥
AreReadFrom trailers digests (image ∷ images) [] = ⊥
AreReadFrom trailers [] (image ∷ images) (source ∷ sources) = ⊥
AreReadFrom trailers (digest ∷ digests) (image ∷ images) (source ∷ sources) =
    IsReadFrom trailers digest image source × AreReadFrom trailers digests images sources

-- as many images as a line names were read, each from a source of its own, under the digest in its
-- place
pub record AreReadFor (line : Line) (images : List (List ℕ)) : Type 0 where
  pub as_many : NamesAsMany line images
  pub sources : List Source
  pub read : AreReadFrom (trailers_of line) line.digests.items images sources

-- these bytes have the digest, if there is one
abbrev pub HasDigest : Option Digest → List ℕ → Type 0
HasDigest None bytes = ⊤
HasDigest (Some digest) bytes =
    IsFileDigest (made_by digest) (sha (made_by digest)) bytes (digest_bytes digest)

-- whether the images of a line stay in their files, however few bytes they have
abbrev pub stay_in_files : Line → Bool
stay_in_files line = line.in_files || line.device

-- the data of images are not read from any source, since all bytes are held
abbrev pub AreHeldWhole : Bool → List Source → Type 0
AreHeldWhole whole sources = (whole ≡ true) × (sources ≡ [])

-- files reported their sizes: all are regular, and have at most 32 MiB together
pub record AreSmall (told : List (Option ℕ)) : Type 0 where
  pub sizes : List ℕ
  pub told_is : told ≡ map Some sizes
  pub few : sum sizes ≤ 2 ^ 25

-- images are read in full: if their line says so, or if their files reported small sizes and the
-- line leaves no image in its file
abbrev pub AreReadWhole : Line → List (Option ℕ) → Type 0
AreReadWhole line told = (line.whole ≡ true) ⊎ ((stay_in_files line ≡ false) × AreSmall told)

-- how the images of a line are loaded, by the size that the file of each has reported: in full, or
-- otherwise as given
pub record IsLoadingOf (line : Line) (otherwise loading : Loading) : Type 0 where
  pub told : List (Option ℕ)
  pub each : length told ≡ vec_len line.images
  pub is : (AreReadWhole line told × (loading ≡ Whole))
      ⊎ ((¬ AreReadWhole line told) × (loading ≡ otherwise))

-- what the data of the images of a line are read from, by the size that the file of each has
-- reported: from no source, if they are read in full; otherwise each from a source of its own. And
-- each image, or its source, matches the digest in its place
pub record HaveSources (line : Line) (whole : Bool) (images : List (List ℕ))
    (sources : List Source) : Type 0 where
  pub told : List (Option ℕ)
  pub each : length told ≡ vec_len line.images
  pub read : AreReadWhole line told → AreHeldWhole whole sources
  pub left : ¬ AreReadWhole line told → AreDataOf (trailers_of line) images sources
  pub either : AreHeldWhole whole sources ⊎ AreDataOf (trailers_of line) images sources
  pub images_by : AreReadWhole line told → AreEachBy IsImageBy line.digests.items images
  pub sources_by : ¬ AreReadWhole line told → AreEachBy IsSourceBy line.digests.items sources

-- the images of a line are good, and this is their stack with the sources of their data
pub record ArePrepared (line : Line) (images : List (List ℕ)) (by : Sourced) : Type 0 where
  pub stacked : AreStacked (profile_of line) line.owner images by.stack
  pub sources : HaveSources line by.stack.whole images by.sources

-- why images were not stacked, as a fault of images
abbrev pub refusal_told_of : Refusal → ImagesFault
refusal_told_of (refusals.Layer layer fault) = Broken layer fault
refusal_told_of (refusals.Layers count) = Layers count
refusal_told_of refusals.Memory = Memory

-- why images are not stacked: one of them is at fault, or their number, or memory ran out
pub record AreNotStacked (profile : Profile) (images : List (List ℕ))
    (fault : ImagesFault) : Type 0 where
  pub refusal : Refusal
  pub told : fault ≡ refusal_told_of refusal
  pub refused : AreRefused profile images refusal

-- a list, followed by a value if there is one
abbrev pub added : {T : Type 0} → List T → Option T → List T
added list None = list
added list (Some value) = list ++ value ∷ []

-- a value, if there is one, followed by a list
abbrev pub before : {T : Type 0} → Option T → List T → List T
before None rest = rest
before (Some value) rest = value ∷ rest

-- what the data of images are read from, if their files stay open
abbrev pub files_of : {F A : Type 0} → List (LoadedImage F A) → List (ImageData F A)
files_of [] = []
files_of (image ∷ images) = before image.source (files_of images)

-- images were split: this is held of them, in their order; and the data of those that are open are
-- read from these
pub record AreApart {F A : Type 0} (images : List (LoadedImage F A)) (held : List (HeldImage A))
    (files : List (ImageData F A)) : Type 0 where
  pub held_are : held ≡ map (λ (image : LoadedImage F A). image.held) images
  pub files_are : files ≡ files_of images
