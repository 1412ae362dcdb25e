-- What is loaded from a file of a kind, in terms that name no kind; and why nothing was (not_gathered, if_far).
use Rattle.std.proofs.Common.{◌≡◌, ◌⊎◌, inl, inr, sym, subst, refl, ℕ, List, Option, IfOk, IfErr, IfSome, Result, Ok, Err}
use Rattle.romfs_files.specs.declared.opening.FileKind.{FileKind}
use Rattle.romfs_files.specs.declared.opening.FileKind.TheVariants.{Regular, BlockDevice, Stream}
use Rattle.romfs_files.specs.declared.image_data.ImageData.{ImageData}
use Rattle.romfs_files.specs.declared.image_data.ImageData.TheVariants.{File, Memory, Sealed}
use Rattle.romfs_files.specs.declared.loaded.LoadedImage.{LoadedImage}
use Rattle.romfs_files.specs.declared.loaded.Loading.{Loading}
use Rattle.romfs_files.specs.declared.loaded.Loading.TheVariants as how
use Rattle.romfs_files.specs.declared.loaded.Trailers.{Trailers}
use Rattle.romfs_files.specs.declared.loaded.Trailers.TheVariants.{Read, Left}
use Rattle.romfs_kept.specs.declared.fault.GatherFault.{GatherFault}
use Rattle.romfs_kept.specs.declared.fault.GatherFault.TheVariants as gather
use Rattle.romfs_kept.specs.Gathered.{IsFar}
use Rattle.devices.specs.Sources.{Source, IfShown, unknown}
use Rattle.romfs_held.specs.declared.image.HeldImage.{HeldImage}
use Rattle.romfs_held.specs.declared.image.HeldImage.TheVariants.{Kept, Whole}
use Rattle.romfs_files.specs.Data.{source_of}
use Rattle.romfs_files.specs.Loaded.{IsKeptWith, IsNotGathered, IsOpenOver}
use Rattle.romfs_files.specs.Opening.{AreOfFile, IsHeldAs, IsLoadedAs}
use Rattle.romfs_files.specs.Files.{IsHeldWith, IsLoadedOf, IsWholeOf}
use Rattle.romfs_files.specs.Reading.{IsLoadFault}

kept_with : {A : Type 0} (known : Option (List ℕ)) (trailers its : Trailers) (held : HeldImage A) → its ≡ trailers
    → IsKeptWith unknown trailers held → IsHeldWith known trailers its held
kept_with known trailers its (Kept kept) same h = same
kept_with known trailers its (Whole bytes) same h = absurd h

whole_with : {A : Type 0} (known : Option (List ℕ)) (trailers its : Trailers) (held : HeldImage A) → IsWholeOf known held
    → IsHeldWith known trailers its held
whole_with known trailers its (Kept kept) h = absurd h
whole_with known trailers its (Whole bytes) h = h

held_of : {F A : Type 0} (kind : FileKind) (known : Option (List ℕ)) (trailers : Trailers) (image : LoadedImage F A)
    → IsHeldAs kind known trailers image → IsHeldWith known trailers image.trailers image.held
held_of (Regular size) known trailers image h = kept_with known trailers image.trailers image.held h.0 h.1
held_of BlockDevice known trailers image h = kept_with known trailers image.trailers image.held h.0 h.1
held_of Stream known trailers image h = whole_with known trailers image.trailers image.held h

-- what the data of an image show is what is known of its file
same_bytes : (known : Option (List ℕ)) (ys zs : List ℕ) → ys ≡ zs → IfSome known (λ xs. ys ≡ xs) → IfSome known (λ xs. zs ≡ xs)
same_bytes known ys zs e h = subst (λ l. IfSome known (λ xs. l ≡ xs)) e h

seen_of : {F A : Type 0} (kind : FileKind) (known : Option (List ℕ)) (source : ImageData F A) → AreOfFile kind known source
    → IfShown (source_of source) (λ ys. IfSome known (λ xs. ys ≡ xs))
seen_of kind known (File file) h = record { each = λ ys shown. absurd shown }
seen_of (Regular size) known (Memory bytes) h = absurd h
seen_of (Regular size) known (Sealed source) h = absurd h
seen_of BlockDevice known (Sealed source) h = absurd h
seen_of Stream known (Sealed source) h = absurd h
seen_of BlockDevice known (Memory bytes) h = absurd h
seen_of Stream known (Memory bytes) h = record { each = λ ys shown. same_bytes known bytes.items ys shown h }

pub loaded_of : {F A : Type 0} (kind : FileKind) (known : Option (List ℕ)) (loading : Loading) (image : LoadedImage F A)
    → IsLoadedAs kind known loading image → IsLoadedOf known loading image
loaded_of kind known how.Whole image h = h
loaded_of kind known (how.Open trailers) image h = record {
  source = h.source;
  shown_are = seen_of kind known h.source h.of_file;
  over = h.over;
}
loaded_of kind known (how.Gather trailers) image h = (held_of kind known trailers image h.0, h.1)

-- an image that is open over the data of a file of a kind
pub opened_as : {F A E : Type 0} (kind : FileKind) (known : Option (List ℕ)) (loading : Loading) (trailers : Trailers)
    (source : ImageData F A) (result : Result (LoadedImage F A) E) → loading ≡ how.Open trailers → AreOfFile kind known source
    → IfOk result (IsOpenOver source trailers) → IfOk result (IsLoadedAs kind known loading)
opened_as kind known loading trailers source (Err e) is of over = tt
opened_as kind known loading trailers source (Ok image) is of over = subst (λ l. IsLoadedAs kind known l image) (sym is)
    (record { source = source; of_file = of; over = over })

-- why nothing was gathered is why nothing is loaded
pub not_gathered : {X Holds : Type 0} (trailers : Trailers) (source : Source) (result : Result X GatherFault)
    → (trailers ≡ Read → IfShown source IsFar → Holds) → IfErr result (IsNotGathered trailers source) → IfErr result (IsLoadFault Holds)
not_gathered trailers source (Ok x) holds is = tt
not_gathered Read source (Err fault) holds (inl (inl memory)) = inl (inl memory)
not_gathered Read source (Err fault) holds (inl (inr unread)) = inl (inr unread.0)
not_gathered Read source (Err fault) holds (inr far) = inr (far.0, holds refl far.1)
not_gathered Left source (Err fault) holds (inl memory) = inl (inl memory)
not_gathered Left source (Err fault) holds (inr unread) = inl (inr unread.0)

-- what holds of a trailer that ends too far
pub if_far : {Holds : Type 0} (fault : GatherFault) → fault ≡ gather.Far → IsLoadFault Holds fault → Holds
if_far fault is (inl (inl memory)) = absurd (cc)
if_far fault is (inl (inr unread)) = absurd (cc)
if_far fault is (inr far) = far.1
