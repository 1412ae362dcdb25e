-- Images that were read for a line, each from a source of its own: those that serve (`opened_for`), and those that are checked
-- (`held_for`).
use Rattle.std.proofs.Common.{◌≡◌, ◌⊎◌, ◌∙◌, sym, ap, subst, refl, inl, inr, ℕ, List, [], ◌∷◌, length, map, Option, Some, None, Vec, vec_len}
use Rattle.std.proofs.lemmas.List.{length-map}
use Rattle.devices.specs.Sources.{Source, held, sealed}
use Rattle.romfs_seal.specs.declared.digest.Digest.{Digest}
use Rattle.romfs_held.specs.declared.image.HeldImage.{HeldImage}
use Rattle.romfs_held.specs.Images.{held_bytes}
use Rattle.romfs_files.specs.declared.image_data.ImageData.{ImageData}
use Rattle.romfs_files.specs.declared.loaded.LoadedImage.{LoadedImage}
use Rattle.romfs_files.specs.declared.loaded.Loading.{Loading}
use Rattle.romfs_files.specs.declared.loaded.Loading.TheVariants as how
use Rattle.romfs_files.specs.declared.loaded.Trailers.{Trailers}
use Rattle.romfs_files.specs.Data.{source_of}
use Rattle.romfs_files.specs.Opening.{loaded_bytes}
use Rattle.romfs_files.specs.Sealing.{AreLoadedBy, IsHeldUnder, IsLoadedBy, IsOpenUnder, IsWholeUnder, seal_by}
use Rattle.strata_words.specs.declared.options.Line.{Line}
use Rattle.strata_images.specs.Images.{AreApart, AreEachBy, AreHeldFor, AreReadFor, AreReadFrom, AreReadWhole, IsHeldBy, IsLoadingOf, IsReadFrom, trailers_of}
use Rattle.strata_images.proofs.Listed.{bytes_apart}
use Rattle.strata_images.proofs.Opened.{as_many_held, each_loaded, is_data, whole_one, whole_over}

-- an image was read from some source
record IsReadBy {F A : Type 0} (trailers : Trailers) (digest : Option Digest) (image : LoadedImage F A) : Type 0 where
  source : Source
  from : IsReadFrom trailers digest (loaded_bytes image) source

unsealed : {F A : Type 0} (trailers : Trailers) (image : LoadedImage F A) → IsReadBy trailers None image
unsealed trailers image = record { source = held (loaded_bytes image); from = refl }

whole_under : {F A : Type 0} (trailers : Trailers) (digest : Digest) (image : LoadedImage F A) → IsWholeUnder digest image
    → IsReadBy trailers (Some digest) image
whole_under trailers digest image its =
    let whole = whole_over (sealed (seal_by digest its.size)) image.held its.whole in
    record { source = sealed (seal_by digest its.size); from = ((its.size, refl), inl (whole.1, whole.2)) }

gathered_under : {F A : Type 0} (trailers : Trailers) (digest : Digest) (image : LoadedImage F A) → IsHeldUnder digest trailers image
    → IsReadBy trailers (Some digest) image
gathered_under trailers digest image its =
    let source = sealed (seal_by digest its.size) in
    record { source = source; from = ((its.size, refl), inr (is_data trailers image.held source its.kept.1)) }

open_under : {F A : Type 0} (trailers : Trailers) (digest : Digest) (image : LoadedImage F A) → IsOpenUnder digest trailers image
    → IsReadBy trailers (Some digest) image
open_under trailers digest image its = record {
  source = source_of its.source;
  from = ((its.under.size, its.under.is), inr (is_data trailers image.held (source_of its.source) its.over.kept.1));
}

-- an image that is held was read so
held_one : {F A : Type 0} (known : F → Option (List ℕ)) (trailers : Trailers) (digest : Option Digest) (image : LoadedImage F A)
    → IsHeldBy known trailers digest image → IsReadBy trailers digest image
held_one known trailers None image its = unsealed trailers image
held_one known trailers (Some digest) image (inl whole) = whole_under trailers digest image whole
held_one known trailers (Some digest) image (inr kept) = gathered_under trailers digest image kept

-- and one that is open
open_one : {F A : Type 0} (known : F → Option (List ℕ)) (trailers : Trailers) (digest : Option Digest) (image : LoadedImage F A)
    → IsLoadedBy known (how.Open trailers) digest image → IsReadBy trailers digest image
open_one known trailers None image its = unsealed trailers image
open_one known trailers (Some digest) image its = open_under trailers digest image its

-- images were read from sources
record AreReadBy {F A : Type 0} (trailers : Trailers) (digests : List (Option Digest)) (images : List (LoadedImage F A)) : Type 0 where
  sources : List Source
  from : AreReadFrom trailers digests (map loaded_bytes images) sources

each_read : {F A : Type 0} (trailers : Trailers) (Is : Option Digest → LoadedImage F A → Type 0)
    → ((digest : Option Digest) (image : LoadedImage F A) → Is digest image → IsReadBy trailers digest image)
    → (digests : List (Option Digest)) (images : List (LoadedImage F A)) → AreEachBy Is digests images → AreReadBy trailers digests images
each_read trailers Is one digests [] all = record { sources = []; from = tt }
each_read trailers Is one [] (image ∷ images) all = absurd all
each_read trailers Is one (digest ∷ digests) (image ∷ images) all =
    let its = one digest image all.0 in
    let rest = each_read trailers Is one digests images all.1 in
    record { sources = its.source ∷ rest.sources; from = (its.from, rest.from) }

-- images that are held for a line were read for it
pub held_for : {F A B : Type 0} (line : Line) (known : F → Option (List ℕ)) (images : Vec (LoadedImage F A) B)
    → vec_len images ≡ vec_len line.images → AreHeldFor line known images.items → AreReadFor line (map loaded_bytes images.items)
held_for line known images many held =
    let all = each_read (trailers_of line) (IsHeldBy known (trailers_of line)) (held_one known (trailers_of line)) line.digests.items
    images.items held in
    record {
      as_many = length-map images.items loaded_bytes ∙ sym images.ok.0 ∙ many;
      sources = all.sources;
      read = all.from;
    }

opened_by : {F A : Type 0} (line : Line) (known : F → Option (List ℕ)) (loading : Loading) (images : List (LoadedImage F A))
    → IsLoadingOf line (how.Open (trailers_of line)) loading → AreLoadedBy known loading line.digests.items images
    → AreReadBy (trailers_of line) line.digests.items images
opened_by {F} {A} line known loading images is loaded = by_way is.is
  where
    all_by : (its : Loading)
        → ((digest : Option Digest) (image : LoadedImage F A) → IsLoadedBy known its digest image
        → IsReadBy (trailers_of line) digest image)
        → loading ≡ its → AreReadBy (trailers_of line) line.digests.items images
    all_by its one e =
        each_read (trailers_of line) (IsReadBy (trailers_of line)) (λ digest image read. read) line.digests.items images
        (each_loaded known its (IsReadBy (trailers_of line)) one line.digests.items images
        (subst (λ l. AreLoadedBy known l line.digests.items images) e loaded))

    by_way : (AreReadWhole line is.told × (loading ≡ how.Whole))
        ⊎ ((AreReadWhole line is.told → ⊥) × (loading ≡ how.Open (trailers_of line)))
        → AreReadBy (trailers_of line) line.digests.items images
    by_way (inl whole) =
        let trailers = trailers_of line in
        all_by how.Whole (λ digest image its. held_one known trailers digest image (whole_one known trailers digest image its)) whole.1
    by_way (inr left) = all_by (how.Open (trailers_of line)) (open_one known (trailers_of line)) left.1

-- and so were those that serve
pub opened_for : {F A : Type 0} (line : Line) (known : F → Option (List ℕ)) (loading : Loading) (images : List (LoadedImage F A))
    (held : List (HeldImage A)) (files : List (ImageData F A)) → length images ≡ vec_len line.images
    → IsLoadingOf line (how.Open (trailers_of line)) loading → AreLoadedBy known loading line.digests.items images
    → AreApart images held files → AreReadFor line (map held_bytes held)
opened_for line known loading images held files many is loaded apart =
    let all = opened_by line known loading images is loaded in
    let same : map held_bytes held ≡ map loaded_bytes images = ap (map held_bytes) apart.held_are ∙ bytes_apart images in
    record {
      as_many = as_many_held images held files apart ∙ many;
      sources = all.sources;
      read = subst (λ bytes. AreReadFrom (trailers_of line) line.digests.items bytes all.sources) (sym same) all.from;
    }
