-- What is made from the file of an image that is loaded.
use Rattle.std.specs.Prelude.{◌≡◌, ℕ, List, Some, None}
use Rattle.devices.specs.Sources.{Source, sealed, unknown}
use Rattle.romfs_seal.specs.Named.{seal_of}
use Rattle.romfs_kept.specs.declared.fault.GatherFault.{GatherFault}
use Rattle.romfs_kept.specs.Gathered.{IsCauseWithTrailer, IsGathered, IsGatheredWithTrailer}
use Rattle.romfs_kept.specs.Reads.{IsCause}
use Rattle.romfs_held.specs.declared.image.HeldImage.{HeldImage}
use Rattle.romfs_held.specs.declared.image.HeldImage.TheVariants as held
use Rattle.romfs_files.specs.declared.loaded.LoadedImage.{LoadedImage}
use Rattle.romfs_files.specs.declared.loaded.Loading.{Loading}
use Rattle.romfs_files.specs.declared.loaded.Loading.TheVariants as how
use Rattle.romfs_files.specs.declared.loaded.Trailers.{Trailers}
use Rattle.romfs_files.specs.declared.loaded.Trailers.TheVariants.{Read, Left}
use Rattle.romfs_files.specs.declared.image_data.ImageData.{ImageData}
use Rattle.romfs_files.specs.declared.image_data.ImageData.TheVariants as from
use Rattle.romfs_files.specs.Data.{source_of}

-- what is kept was gathered from the bytes that the source shows, whichever these are: with their
-- trailer, if trailers are read
abbrev pub WasGathered : Trailers → Source → List ℕ → Type 0
WasGathered Read source kept = IsGatheredWithTrailer source kept
WasGathered Left source kept = IsGathered source kept

-- why nothing was: with the trailer, it may also end too far
abbrev pub IsNotGathered : Trailers → Source → GatherFault → Type 0
IsNotGathered Read source fault = IsCauseWithTrailer source fault
IsNotGathered Left source fault = IsCause source fault

-- a trailer is read, and not all other bytes
abbrev pub ReadsTrailer : Loading → Type 0
ReadsTrailer how.Whole = ⊥
ReadsTrailer (how.Open trailers) = trailers ≡ Read
ReadsTrailer (how.Gather trailers) = trailers ≡ Read

-- what the rules look at is held: it was gathered from this source, with its trailer if trailers
-- are read
abbrev pub IsKeptWith : {A : Type 0} → Source → Trailers → HeldImage A → Type 0
IsKeptWith source trailers (held.Kept kept) = WasGathered trailers source kept
IsKeptWith source trailers (held.Whole bytes) = ⊥

-- the same of an image, which says whether its trailer was read
abbrev pub IsKeptOf : {F A : Type 0} → Source → Trailers → LoadedImage F A → Type 0
IsKeptOf source trailers image =
    (image.trailers ≡ trailers) × IsKeptWith source trailers image.held

-- an image is open over these data, with its trailer or without
pub record IsOpenOver {F A : Type 0} (source : ImageData F A) (trailers : Trailers)
    (image : LoadedImage F A) : Type 0 where
  pub source_is : image.source ≡ Some source
  pub kept : IsKeptOf (source_of source) trailers image

-- an image of these data, which it no longer reads: for a file, sealed or not, what the rules look
-- at is held; for bytes in memory, all of them are
abbrev pub IsLetGo : {F A : Type 0} → ImageData F A → Trailers → LoadedImage F A → Type 0
IsLetGo (from.File file) trailers image =
    IsKeptOf unknown trailers image × (image.source ≡ None)
IsLetGo (from.Memory bytes) trailers image =
    (image.held ≡ held.Whole bytes) × (image.source ≡ None)
IsLetGo (from.Sealed name) trailers image =
    IsKeptOf (sealed (seal_of name)) trailers image × (image.source ≡ None)
