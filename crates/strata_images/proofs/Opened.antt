-- The images of a line. `loaded_sources` says what the data of loaded images are read from, `stacked_sources` that their stack has the
-- same; `read_held` and `whole_held` that they are read from no source if the images are read in full, and `held_whole` that a stack
-- without sources is held. `seen_as` lends their files. `loaded_ones` says what is held of images for a line that checks.
use Rattle.std.proofs.Common.{◌≡◌, ◌≤◌, ◌⊎◌, ◌||◌, ◌∙◌, sym, ap, subst, refl, ℕ, suc, inl, inr, true, false, true≢false, List, [], ◌∷◌, length, map, Bool, Option, Some, None, Vec, vec_len, arith}
use Rattle.std.specs.List.{list_all}
use Rattle.std.proofs.lemmas.List.{length-map}
use Rattle.devices.specs.Sources.{Source, IsSizeOf, MayGive, sealed}
use Rattle.romfs_seal.specs.declared.digest.Digest.{Digest}
use Rattle.romfs_files.specs.declared.image_data.ImageData.{ImageData}
use Rattle.romfs_files.specs.declared.loaded.LoadedImage.{LoadedImage}
use Rattle.romfs_files.specs.declared.loaded.Loading.{Loading}
use Rattle.romfs_files.specs.declared.loaded.Loading.TheVariants as how
use Rattle.romfs_files.specs.declared.loaded.Trailers.{Trailers}
use Rattle.romfs_files.specs.Data.{source_of}
use Rattle.romfs_held.specs.declared.image.HeldImage.{HeldImage}
use Rattle.romfs_held.specs.declared.image.HeldImage.TheVariants.{Kept, Whole}
use Rattle.romfs_held.specs.Images.{held_bytes, is_whole}
use Rattle.romfs_files.specs.Files.{IsHeldWith, IsWholeOf}
use Rattle.romfs_files.specs.Loaded.{IsKeptWith, IsOpenOver}
use Rattle.romfs_files.specs.Sealing.{AreLoadedBy, IsLoadedBy, IsWholeOver, seal_by}
use Rattle.strata_words.specs.declared.options.Line.{Line}
use Rattle.stack_model.specs.Listing.{Stacked}
use Rattle.reply_model.specs.Readings.{Sourced, in_memory, sourced}
use Rattle.strata_images.specs.Images.{AreApart, AreDataOf, AreEachBy, AreHeldFor, AreHeldWhole, ArePrepared, AreReadWhole, HaveSources, IsDataOf, IsHeldBy, IsImageBy, IsLoadingOf, IsSourceBy, sources_of, stay_in_files, before, files_of, trailers_of}

-- what is held of an image that was gathered
pub is_data : {A : Type 0} (trailers : Trailers) (held : HeldImage A) (source : Source) → IsKeptWith source trailers held
    → IsDataOf trailers (held_bytes held) source
is_data trailers (Whole bytes) source h = absurd h
is_data trailers (Kept kept) source h = h

abbrev held_of : {F A : Type 0} → List (LoadedImage F A) → List (HeldImage A)
held_of {F} {A} images = map (λ (image : LoadedImage F A). image.held) images

-- an image that is open has a source by its digest
record IsOpenBy {F A : Type 0} (trailers : Trailers) (digest : Option Digest) (image : LoadedImage F A) : Type 0 where
  source : ImageData F A
  over : IsOpenOver source trailers image
  by : IsSourceBy digest (source_of source)

open_by : {F A : Type 0} (known : F → Option (List ℕ)) (trailers : Trailers) (digest : Option Digest) (image : LoadedImage F A)
    → IsLoadedBy known (how.Open trailers) digest image → IsOpenBy trailers digest image
open_by known trailers None image its = record { source = its.read.source; over = its.read.over; by = tt }
open_by known trailers (Some digest) image its = record {
  source = its.source;
  over = its.over;
  by = (its.under.size, its.under.is);
}

-- what their data are read from was gathered from, and is by their digests
abbrev Have : {F A : Type 0} → Trailers → List (Option Digest) → List (LoadedImage F A) → List (ImageData F A) → Type 0
Have trailers digests images files =
    AreDataOf trailers (map held_bytes (held_of images)) (map source_of files)
    × AreEachBy IsSourceBy digests (map source_of files)

are_data : {F A : Type 0} (known : F → Option (List ℕ)) (trailers : Trailers) (digests : List (Option Digest))
    (images : List (LoadedImage F A)) → AreLoadedBy known (how.Open trailers) digests images
    → Have trailers digests images (files_of images)
are_data known trailers digests [] all = (tt, tt)
are_data known trailers [] (image ∷ images) all = absurd all
are_data known trailers (digest ∷ digests) (image ∷ images) all =
    let its = open_by known trailers digest image all.0 in
    let rest = are_data known trailers digests images all.1 in
    subst (λ s. Have trailers (digest ∷ digests) (image ∷ images) (before s (files_of images))) (sym its.over.source_is)
    ((is_data trailers image.held (source_of its.source) its.over.kept.1, rest.0), (its.by, rest.1))

-- the sources of images that stay in their files
are_sources : {F A : Type 0} (line : Line) (known : F → Option (List ℕ)) (images : List (LoadedImage F A)) (whole : Bool)
    (told : List (Option ℕ)) → length told ≡ vec_len line.images → (AreReadWhole line told → ⊥)
    → AreLoadedBy known (how.Open (trailers_of line)) line.digests.items images
    → HaveSources line whole (map held_bytes (held_of images)) (map source_of (files_of images))
are_sources line known images whole told each left loaded =
    let are = are_data known (trailers_of line) line.digests.items images loaded in
    record {
      told = told;
      each = each;
      read = λ all. absurd (left all);
      left = λ _. are.0;
      either = inr are.0;
      images_by = λ all. absurd (left all);
      sources_by = λ _. are.1;
    }

is_whole_of : {A : Type 0} (known : Option (List ℕ)) (held : HeldImage A) → IsWholeOf known held → is_whole held ≡ true
is_whole_of known (Kept kept) h = absurd h
is_whole_of known (Whole bytes) h = refl

-- an image that is read in full is held in full, by its digest, and read from no source
abbrev IsAllBy : {F A : Type 0} → Option Digest → LoadedImage F A → Type 0
IsAllBy digest image = (is_whole image.held ≡ true) × (image.source ≡ None) × IsImageBy digest (held_bytes image.held)

-- all bytes of an image that is read in full are held
pub whole_over : {A : Type 0} (source : Source) (held : HeldImage A) → IsWholeOver source held
    → (is_whole held ≡ true) × MayGive source 0 (held_bytes held) × IsSizeOf source (length (held_bytes held))
whole_over source (Kept kept) h = absurd h
whole_over source (Whole bytes) h = (refl, h.0, h.1)

all_by : {F A : Type 0} (known : F → Option (List ℕ)) (digest : Option Digest) (image : LoadedImage F A)
    → IsLoadedBy known how.Whole digest image → IsAllBy digest image
all_by known None image its = (is_whole_of (known its.file) image.held its.read.0, its.read.1, tt)
all_by known (Some digest) image its =
    let whole = whole_over (sealed (seal_by digest its.size)) image.held its.whole in
    (whole.0, its.let_go, (its.size, whole.1, whole.2))

-- so all are
record AreAllBy {F A : Type 0} (digests : List (Option Digest)) (images : List (LoadedImage F A)) : Type 0 where
  held : list_all is_whole (held_of images) ≡ true
  none : files_of images ≡ []
  by : AreEachBy IsImageBy digests (map held_bytes (held_of images))

all_held : {F A : Type 0} (known : F → Option (List ℕ)) (digests : List (Option Digest)) (images : List (LoadedImage F A))
    → AreLoadedBy known how.Whole digests images → AreAllBy digests images
all_held known digests [] all = record { held = refl; none = refl; by = tt }
all_held known [] (image ∷ images) all = absurd all
all_held known (digest ∷ digests) (image ∷ images) all =
    let its = all_by known digest image all.0 in
    let rest = all_held known digests images all.1 in
    record {
      held = rw (its.0, rest.held) refl;
      none = ap (λ s. before s (files_of images)) its.1 ∙ rest.none;
      by = (its.2, rest.by);
    }

no_sources : {F A : Type 0} (line : Line) (known : F → Option (List ℕ)) (images : List (LoadedImage F A)) (told : List (Option ℕ))
    → length told ≡ vec_len line.images → AreReadWhole line told → AreLoadedBy known how.Whole line.digests.items images
    → HaveSources line (list_all is_whole (held_of images)) (map held_bytes (held_of images)) (map source_of (files_of images))
no_sources line known images told each all loaded =
    let are = all_held known line.digests.items images loaded in
    let held : AreHeldWhole (list_all is_whole (held_of images)) (map source_of (files_of images)) =
    (are.held, ap (map source_of) are.none) in
    record {
      told = told;
      each = each;
      read = λ _. held;
      left = λ kept. absurd (kept all);
      either = inl held;
      images_by = λ _. are.by;
      sources_by = λ kept. absurd (kept all);
    }

-- as many images are held as were loaded
pub as_many_held : {F A : Type 0} (images : List (LoadedImage F A)) (held : List (HeldImage A)) (files : List (ImageData F A))
    → AreApart images held files → length (map held_bytes held) ≡ length images
as_many_held {F} {A} images held files apart =
    length-map held held_bytes ∙ ap length apart.held_are ∙ length-map images (λ (image : LoadedImage F A). image.held)

-- what the data of the images of a line are read from, as they are loaded
pub loaded_sources : {F A : Type 0} (line : Line) (known : F → Option (List ℕ)) (loading : Loading) (images : List (LoadedImage F A))
    (held : List (HeldImage A)) (files : List (ImageData F A)) → IsLoadingOf line (how.Open (trailers_of line)) loading
    → AreLoadedBy known loading line.digests.items images → AreApart images held files
    → HaveSources line (list_all is_whole held) (map held_bytes held) (map source_of files)
loaded_sources line known loading images held files is loaded apart =
    subst (λ h. HaveSources line (list_all is_whole h) (map held_bytes h) (map source_of files)) (sym apart.held_are)
    (subst (λ f. HaveSources line (list_all is_whole (held_of images)) (map held_bytes (held_of images)) (map source_of f))
    (sym apart.files_are) (by_way is.is))
  where
    by_way : (AreReadWhole line is.told × (loading ≡ how.Whole))
        ⊎ ((AreReadWhole line is.told → ⊥) × (loading ≡ how.Open (trailers_of line)))
        → HaveSources line (list_all is_whole (held_of images)) (map held_bytes (held_of images)) (map source_of (files_of images))
    by_way (inl whole) =
        no_sources line known images is.told is.each whole.0 (subst (λ l. AreLoadedBy known l line.digests.items images) whole.1 loaded)
    by_way (inr left) = are_sources line known images (list_all is_whole (held_of images)) is.told is.each left.0
        (subst (λ l. AreLoadedBy known l line.digests.items images) left.1 loaded)

-- the sources of images' data hold for their stack, if the stack is complete when all images are held in full
pub stacked_sources : (line : Line) (whole stacked : Bool) (images : List (List ℕ)) (sources : List Source)
    → (whole ≡ true → stacked ≡ true) → HaveSources line whole images sources → HaveSources line stacked images sources
stacked_sources line whole stacked images sources same have =
    let held : AreHeldWhole whole sources → AreHeldWhole stacked sources = λ all. (same all.0, all.1) in
    record {
      told = have.told;
      each = have.each;
      read = λ all. held (have.read all);
      left = have.left;
      either = by_either have.either held;
      images_by = have.images_by;
      sources_by = have.sources_by;
    }
  where
    by_either : AreHeldWhole whole sources ⊎ AreDataOf (trailers_of line) images sources
        → (AreHeldWhole whole sources → AreHeldWhole stacked sources)
        → AreHeldWhole stacked sources ⊎ AreDataOf (trailers_of line) images sources
    by_either (inl all) held = inl (held all)
    by_either (inr are) held = inr are

-- the stack of images that are read in full is held
pub read_held : (line : Line) (images : List (List ℕ)) (by : Sourced) (p : ArePrepared line images by) → AreReadWhole line p.sources.told
    → by ≡ in_memory by.stack
read_held line images by p all = ap (λ sources. sourced by.stack sources) (p.sources.read all).1

-- for instance if a line asks for all bytes
pub whole_held : (line : Line) (images : List (List ℕ)) (by : Sourced) → line.whole ≡ true → ArePrepared line images by
    → by ≡ in_memory by.stack
whole_held line images by whole p = read_held line images by p (inl whole)

-- a stack whose data are read from nothing is held in full
pub held_whole : (line : Line) (images : List (List ℕ)) (by : Sourced) → by.sources ≡ [] → ArePrepared line images by
    → by.stack.whole ≡ true
held_whole line images by none p = by_either images p.stacked.layers.few.0 p.sources.either
  where
    by_either : (images : List (List ℕ)) → 1 ≤ length images
        → AreHeldWhole by.stack.whole by.sources ⊎ AreDataOf (trailers_of line) images by.sources → by.stack.whole ≡ true
    by_either images few (inl all) = all.0
    by_either [] few (inr are) = absurd (omega arith)
    by_either (image ∷ images) few (inr are) = absurd (subst (λ s. AreDataOf (trailers_of line) (image ∷ images) s) none are)

-- each image has a source
as_many : (trailers : Trailers) (images : List (List ℕ)) (sources : List Source) → AreDataOf trailers images sources
    → length sources ≡ length images
as_many trailers [] [] a = refl
as_many trailers [] (s ∷ sources) a = absurd a
as_many trailers (image ∷ images) [] a = absurd a
as_many trailers (image ∷ images) (s ∷ sources) a = ap suc (as_many trailers images sources a.1)

-- one of the two options that leave images in their files
pub stays : (in_files device : Bool) → (in_files ≡ true) ⊎ (device ≡ true) → (in_files || device) ≡ true
stays true device said = refl
stays false device (inl said) = absurd (true≢false (sym said))
stays false device (inr said) = said

-- each image that is not read in full has a source
pub left_in_files : (line : Line) (images : List (List ℕ)) (by : Sourced) (p : ArePrepared line images by)
    → (AreReadWhole line p.sources.told → ⊥) → length by.sources ≡ length images
left_in_files line images by p left = as_many (trailers_of line) images by.sources (p.sources.left left)

not_whole : (line : Line) (told : List (Option ℕ)) → line.whole ≡ false → stay_in_files line ≡ true → AreReadWhole line told → ⊥
not_whole line told left stay (inl whole) = true≢false (sym whole ∙ left)
not_whole line told left stay (inr small) = true≢false (sym stay ∙ small.0)

-- and so it is over a device, and if a line says `--in-files`
pub in_their_files : (line : Line) (images : List (List ℕ)) (by : Sourced) → line.whole ≡ false
    → (line.in_files ≡ true) ⊎ (line.device ≡ true) → ArePrepared line images by → length by.sources ≡ length images
in_their_files line images by left said p =
    left_in_files line images by p (not_whole line p.sources.told left (stays line.in_files line.device said))

held_with : {A : Type 0} (known : Option (List ℕ)) (trailers its : Trailers) (held : HeldImage A) → IsWholeOf known held
    → IsHeldWith known trailers its held
held_with known trailers its (Kept kept) h = absurd h
held_with known trailers its (Whole bytes) h = h

-- an image that is read in full is held
pub whole_one : {F A : Type 0} (known : F → Option (List ℕ)) (trailers : Trailers) (digest : Option Digest) (image : LoadedImage F A)
    → IsLoadedBy known how.Whole digest image → IsHeldBy known trailers digest image
whole_one known trailers None image its = record {
  file = its.file;
  read = held_with (known its.file) trailers image.trailers image.held its.read.0;
}
whole_one known trailers (Some digest) image its = inl its

gathered_one : {F A : Type 0} (known : F → Option (List ℕ)) (trailers : Trailers) (digest : Option Digest) (image : LoadedImage F A)
    → IsLoadedBy known (how.Gather trailers) digest image → IsHeldBy known trailers digest image
gathered_one known trailers None image its = record { file = its.file; read = its.read.0 }
gathered_one known trailers (Some digest) image its = inr its

-- each image is as its own loading makes it
pub each_loaded : {F A : Type 0} (known : F → Option (List ℕ)) (loading : Loading) (Is : Option Digest → LoadedImage F A → Type 0)
    → ((digest : Option Digest) (image : LoadedImage F A) → IsLoadedBy known loading digest image → Is digest image)
    → (digests : List (Option Digest)) (images : List (LoadedImage F A)) → AreLoadedBy known loading digests images
    → AreEachBy Is digests images
each_loaded known loading Is one digests [] all = tt
each_loaded known loading Is one [] (image ∷ images) all = absurd all
each_loaded known loading Is one (digest ∷ digests) (image ∷ images) all =
    (one digest image all.0, each_loaded known loading Is one digests images all.1)

-- images that are loaded for a line that checks are held for it
pub loaded_ones : {F A : Type 0} (line : Line) (known : F → Option (List ℕ)) (loading : Loading) (images : List (LoadedImage F A))
    → IsLoadingOf line (how.Gather (trailers_of line)) loading → AreLoadedBy known loading line.digests.items images
    → AreHeldFor line known images
loaded_ones {F} {A} line known loading images is loaded = by_way is.is
  where
    by_way : (AreReadWhole line is.told × (loading ≡ how.Whole))
        ⊎ ((AreReadWhole line is.told → ⊥) × (loading ≡ how.Gather (trailers_of line)))
        → AreHeldFor line known images
    by_way (inl whole) = each_loaded known how.Whole (IsHeldBy known (trailers_of line)) (whole_one known (trailers_of line))
        line.digests.items images (subst (λ l. AreLoadedBy known l line.digests.items images) whole.1 loaded)
    by_way (inr left) = each_loaded known (how.Gather (trailers_of line)) (IsHeldBy known (trailers_of line))
        (gathered_one known (trailers_of line)) line.digests.items images
        (subst (λ l. AreLoadedBy known l line.digests.items images) left.1 loaded)

-- images that are prepared with their files are prepared with all of these, borrowed
pub seen_as : {F A B : Type 0} (line : Line) (images : List (List ℕ)) (stack : Stacked) (files : Vec (ImageData F A) B)
    (lent : List (ImageData F A)) → lent ≡ files.items → ArePrepared line images (sourced stack (sources_of files))
    → ArePrepared line images (sourced stack (map source_of lent))
seen_as line images stack files lent e p = subst (λ fs. ArePrepared line images (sourced stack (map source_of fs))) (sym e) p
