-- Images that are read under the digest of their file.
use Rattle.std.specs.Prelude.{◌≡◌, ℕ, List, [], ◌∷◌, Option, Some, None, length, ⊤}
use Rattle.devices.specs.Given.{anything}
use Rattle.devices.specs.Seal.{Seal}
use Rattle.devices.specs.Sources.{Source, sealed, IfShown, IsSizeOf, MayGive}
use Rattle.romfs_kept.specs.Gathered.{IsFar}
use Rattle.romfs_seal.specs.declared.digest.Digest.{Digest}
use Rattle.romfs_seal.specs.Digests.{digest_bytes, made_by, sha}
use Rattle.romfs_seal.specs.Named.{Named, seal_of}
use Rattle.romfs_files.specs.declared.image_data.ImageData.{ImageData}
use Rattle.romfs_files.specs.declared.image_data.ImageData.TheVariants.{Sealed}
use Rattle.romfs_files.specs.declared.loaded.LoadedImage.{LoadedImage}
use Rattle.romfs_files.specs.declared.loaded.Trailers.{Trailers}
use Rattle.romfs_files.specs.Data.{source_of}
use Rattle.romfs_held.specs.declared.image.HeldImage.{HeldImage}
use Rattle.romfs_held.specs.declared.image.HeldImage.TheVariants as held
use Rattle.romfs_files.specs.declared.loaded.Loading.{Loading}
use Rattle.romfs_files.specs.declared.loaded.Loading.TheVariants as how
use Rattle.romfs_files.specs.Files.{IsLoadedOf, IsOfFile}
use Rattle.romfs_files.specs.Loaded.{IsKeptOf, IsLetGo, IsOpenOver}

-- reads from the files may give anything; this is the file's size, and its digest
abbrev pub seal_by : Digest → ℕ → Seal
seal_by digest size = record {
  image = anything;
  tree = anything;
  algorithm = made_by digest;
  hash = sha (made_by digest);
  size = size;
  digest = digest_bytes digest;
}

-- a file of this name is read under this digest
pub record IsNameUnder (digest : Digest) (name : Named) : Type 0 where
  pub size : ℕ
  pub is : seal_of name ≡ seal_by digest size

-- the data are read under this digest
pub record IsUnder {F A : Type 0} (digest : Digest) (source : ImageData F A) : Type 0 where
  pub size : ℕ
  pub is : source_of source ≡ sealed (seal_by digest size)

-- the image of a file of this name is open; or its file was let go
abbrev pub IsOpenAs : {F A : Type 0} → Named → Trailers → LoadedImage F A → Type 0
IsOpenAs name trailers image = IsOpenOver (Sealed name) trailers image

abbrev pub IsGoneAs : {F A : Type 0} → Named → Trailers → LoadedImage F A → Type 0
IsGoneAs name trailers image = IsLetGo (Sealed name) trailers image

-- the image of such data is open, with its trailer or without
pub record IsOpenUnder {F A : Type 0} (digest : Digest) (trailers : Trailers)
    (image : LoadedImage F A) : Type 0 where
  pub source : ImageData F A
  pub under : IsUnder digest source
  pub over : IsOpenOver source trailers image

-- all bytes of the source are held, as reads from it may give them
abbrev pub IsWholeOver : {A : Type 0} → Source → HeldImage A → Type 0
IsWholeOver source (held.Kept kept) = ⊥
IsWholeOver source (held.Whole bytes) =
    MayGive source 0 bytes.items × IsSizeOf source (length bytes.items)

-- all bytes of an image were read under this digest, and its file was closed
pub record IsWholeUnder {F A : Type 0} (digest : Digest) (image : LoadedImage F A) : Type 0 where
  pub size : ℕ
  pub whole : IsWholeOver (sealed (seal_by digest size)) image.held
  pub let_go : image.source ≡ None

-- what the rules look at was read, and its file was closed
pub record IsHeldUnder {F A : Type 0} (digest : Digest) (trailers : Trailers)
    (image : LoadedImage F A) : Type 0 where
  pub size : ℕ
  pub kept : IsKeptOf (sealed (seal_by digest size)) trailers image
  pub let_go : image.source ≡ None

-- the trailer ends too far in any bytes that are shown under this digest
pub record IsFarUnder (digest : Digest) : Type 0 where
  pub size : ℕ
  pub far : IfShown (sealed (seal_by digest size)) IsFar

-- what is loaded from a file under its digest
abbrev pub IsLoadedUnder : {F A : Type 0} → Digest → Loading → LoadedImage F A → Type 0
IsLoadedUnder digest how.Whole image = IsWholeUnder digest image
IsLoadedUnder digest (how.Open trailers) image = IsOpenUnder digest trailers image
IsLoadedUnder digest (how.Gather trailers) image = IsHeldUnder digest trailers image

-- what is loaded from a file: under its digest, if there is one, and otherwise in relation to its
-- known bytes
abbrev pub IsLoadedBy : {F A : Type 0} → (F → Option (List ℕ)) → Loading → Option Digest
    → LoadedImage F A → Type 0
IsLoadedBy known loading None image = IsOfFile (λ file. IsLoadedOf (known file) loading) image
IsLoadedBy known loading (Some digest) image = IsLoadedUnder digest loading image

-- the images are those of the first of these digests, in their order
abbrev pub AreLoadedBy : {F A : Type 0} → (F → Option (List ℕ)) → Loading → List (Option Digest)
    → List (LoadedImage F A) → Type 0
AreLoadedBy known loading digests [] = ⊤
AreLoadedBy known loading [] (image ∷ images) = ⊥
AreLoadedBy known loading (digest ∷ digests) (image ∷ images) =
    IsLoadedBy known loading digest image × AreLoadedBy known loading digests images
