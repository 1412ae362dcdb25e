-- Images under digests: those that sources show have the digests by which these are read, over which a line serves (`shown_have_digests`)
-- and of which it reports (`reported_have_digests`); and an image that is read in full is the shown one (`read_is_shown`), or any with the
-- digest (`read_has`).
use Rattle.std.proofs.Common.{◌≡◌, ◌∙◌, ◌⊎◌, ◌^◌, ◌<◌, ◌≤◌, sym, subst, ℕ, List, [], ◌∷◌, Option, Some, None, length, arith}
use Rattle.std.proofs.lemmas.List.{take_all}
use Rattle.devices.specs.Sources.{Source, IsSizeOf, MayGive, Shows, sealed}
use Rattle.devices.proofs.Shown.{shown_given}
use Rattle.romfs_seal.specs.declared.digest.Digest.{Digest}
use Rattle.romfs_seal.specs.Digests.{made_by, is_digest}
use Rattle.romfs_seal.specs.Twins.{AreForgedIn}
use Rattle.romfs_seal.proofs.InFull.{read_or_forged}
use Rattle.romfs_files.specs.declared.loaded.Trailers.{Trailers}
use Rattle.romfs_files.specs.Sealing.{seal_by}
use Rattle.reply_model.specs.Readings.{AreShown, Sourced}
use Rattle.strata_words.specs.declared.options.Line.{Line}
use Rattle.strata_images.specs.Images.{AreEachBy, ArePrepared, AreReadFor, AreReadFrom, AreReadWhole, HasDigest, IsImageBy, IsReadFrom, IsSourceBy, trailers_of}

shown_has : (digest : Option Digest) (source : Source) (bytes : List ℕ) → IsSourceBy digest source → Shows source bytes
    → HasDigest digest bytes
shown_has None source bytes by shown = tt
shown_has (Some digest) source bytes by shown =
    let unmatched : Shows (sealed (seal_by digest by.0)) bytes = subst (λ s. Shows s bytes) by.1 shown in unmatched.of

each_has : (digests : List (Option Digest)) (sources : List Source) (images : List (List ℕ)) → AreEachBy IsSourceBy digests sources
    → AreShown sources images → AreEachBy HasDigest digests images
each_has digests [] [] by shown = tt
each_has digests [] (bytes ∷ images) by shown = absurd shown
each_has digests (source ∷ sources) [] by shown = absurd shown
each_has [] (source ∷ sources) (bytes ∷ images) by shown = absurd by
each_has (digest ∷ digests) (source ∷ sources) (bytes ∷ images) by shown =
    (shown_has digest source bytes by.0 shown.0, each_has digests sources images by.1 shown.1)

pub shown_have_digests : (line : Line) (kept images : List (List ℕ)) (by : Sourced) (p : ArePrepared line kept by)
    → (AreReadWhole line p.sources.told → ⊥) → AreShown by.sources images → AreEachBy HasDigest line.digests.items images
shown_have_digests line kept images by p left shown = each_has line.digests.items by.sources images (p.sources.sources_by left) shown

from_has : (trailers : Trailers) (digest : Option Digest) (kept : List ℕ) (source : Source) (bytes : List ℕ)
    → IsReadFrom trailers digest kept source → Shows source bytes → HasDigest digest bytes
from_has trailers None kept source bytes from shown = tt
from_has trailers (Some digest) kept source bytes from shown = shown_has (Some digest) source bytes from.0 shown

all_have : (trailers : Trailers) (digests : List (Option Digest)) (kept : List (List ℕ)) (sources : List Source) (images : List (List ℕ))
    → AreReadFrom trailers digests kept sources → AreShown sources images → AreEachBy HasDigest digests images
all_have trailers digests kept sources [] from shown = tt
all_have trailers digests kept [] (bytes ∷ images) from shown = absurd shown
all_have trailers digests [] (source ∷ sources) (bytes ∷ images) from shown = absurd from
all_have trailers [] (a ∷ kept) (source ∷ sources) (bytes ∷ images) from shown = absurd from
all_have trailers (digest ∷ digests) (a ∷ kept) (source ∷ sources) (bytes ∷ images) from shown =
    (from_has trailers digest a source bytes from.0 shown.0, all_have trailers digests kept sources images from.1 shown.1)

pub reported_have_digests : (line : Line) (kept images : List (List ℕ)) (read : AreReadFor line kept) → AreShown read.sources images
    → AreEachBy HasDigest line.digests.items images
reported_have_digests line kept images read shown =
    all_have (trailers_of line) line.digests.items kept read.sources images read.read shown

-- what a source may give, if it is all, is what it shows
pub given_is_shown : (source : Source) (image bytes : List ℕ) → MayGive source 0 image → IsSizeOf source (length image) → Shows source bytes
    → image ≡ bytes
given_is_shown source image bytes given size shown =
    let same : length image ≡ length bytes = size.shown bytes shown in
    shown_given source bytes image 0 shown given ∙ take_all (length image) bytes (omega (arith, same))

pub read_is_shown : (digest : Digest) (image bytes : List ℕ) (by : IsImageBy (Some digest) image)
    → Shows (sealed (seal_by digest by.0)) bytes → image ≡ bytes
read_is_shown digest image bytes by shown = given_is_shown (sealed (seal_by digest by.0)) image bytes by.1 by.2 shown

pub read_has : (digest : Digest) (image bytes : List ℕ) (by : IsImageBy (Some digest) image)
    → 1 ≤ length image → length image < 2 ^ 64 → (has : HasDigest (Some digest) bytes)
    → (image ≡ bytes) ⊎ AreForgedIn (seal_by digest by.0) bytes has.levels 0 image by.1
read_has digest image bytes by some small has =
    read_or_forged (seal_by digest by.0) (λ m. is_digest (made_by digest) m) image bytes by.1 (sym by.2.has) some small has
