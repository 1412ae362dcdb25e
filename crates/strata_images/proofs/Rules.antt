-- What a line requests, and what follows from it: its profile (`asks`, `reads`), how its images are judged (`judged`, `judged_whole`), and
-- which a mount takes (`mountable`).
use Rattle.std.proofs.Common.{◌≡◌, ◌∙◌, ◌≤◌, sym, ap₂, subst, refl, length, map, ℕ, ◌↔◌, ◌||◌, List, Bool, true, false, true≢false, Some, if◌then◌else◌}
use Rattle.romfs_format.specs.declared.rule.Profile.{Profile}
use Rattle.romfs_format.specs.Profiles.{asks_sums, profile_with, reads_attributes}
use Rattle.romfs_format.specs.Fields.{image}
use Rattle.romfs_format.specs.Rules.{IsSound}
use Rattle.romfs_image.specs.declared.refusal.CheckFault.{CheckFault}
use Rattle.romfs_image.specs.Refusals.{IsRefusal}
use Rattle.romfs_image.proofs.Gathered.{judged_alike, judged_with_trailer}
use Rattle.devices.specs.Sources.{Source, Shows}
use Rattle.romfs_files.specs.declared.loaded.Trailers.TheVariants.{Read, Left}
use Rattle.romfs_files.specs.declared.loaded.LoadedImage.{LoadedImage}
use Rattle.romfs_held.specs.declared.image.HeldImage.{HeldImage}
use Rattle.romfs_held.specs.declared.image.HeldImage.TheVariants.{Kept, Whole}
use Rattle.romfs_held.specs.Images.{held_bytes}
use Rattle.romfs_files.specs.Files.{IsWholeOf}
use Rattle.romfs_files.specs.Loaded.{WasGathered}
use Rattle.romfs_files.specs.Opening.{IsHeldWhole, loaded_bytes}
use Rattle.strata_words.specs.declared.options.Line.{Line}
use Rattle.stack_prepare.specs.declared.refusal.Refusal.{Refusal}
use Rattle.stack_prepare.specs.declared.refusal.Refusal.TheVariants.{Memory}
use Rattle.stack_prepare.specs.Layers.{AreLayers, AreRefused}
use Rattle.stack_prepare.proofs.Refusals.{good_are_taken}
use Rattle.strata_images.specs.Checking.{AreAccepted}
use Rattle.strata_images.specs.Images.{asks_attributes, profile_of, reports_trailers, trailers_of}

sums_of : (sums attributes : Bool) → asks_sums (profile_with sums attributes) ≡ sums
sums_of true true = refl
sums_of true false = refl
sums_of false true = refl
sums_of false false = refl

attributes_of : (sums attributes : Bool) → reads_attributes (profile_with sums attributes) ≡ attributes
attributes_of true true = refl
attributes_of true false = refl
attributes_of false true = refl
attributes_of false false = refl

pub asks : (line : Line) → asks_sums (profile_of line) ≡ line.strict
asks line = sums_of line.strict (asks_attributes line)

pub reads : (line : Line) → reads_attributes (profile_of line) ≡ asks_attributes line
reads line = attributes_of line.strict (asks_attributes line)

abbrev IsJudged : Profile → List ℕ → List ℕ → Type 0
IsJudged profile bytes image =
    (IsSound profile image ↔ IsSound profile bytes)
    × ((fault : CheckFault) → IsRefusal profile image fault ↔ IsRefusal profile bytes fault)

judged_by : (sums attributes reports : Bool) (source : Source) (bytes image : List ℕ) → Shows source bytes
    → WasGathered (if attributes || reports then Read else Left) source image
    → IsJudged (profile_with sums attributes) bytes image
judged_by sums true reports source bytes image shown g =
    (let j = judged_with_trailer (profile_with sums true) bytes image (g.each bytes shown) in (j.0, j.1))
judged_by sums false true source bytes image shown g =
    (let j = judged_with_trailer (profile_with sums false) bytes image (g.each bytes shown) in (j.0, j.1))
judged_by sums false false source bytes image shown g =
    judged_alike (profile_with sums false) (λ yes. true≢false (sym (yes) ∙ attributes_of sums false)) bytes image (g.each bytes shown)

-- what is kept of an image is judged as its data are
pub judged : (line : Line) (source : Source) (bytes image : List ℕ) → Shows source bytes → WasGathered (trailers_of line) source image
    → IsJudged (profile_of line) bytes image
judged line source bytes image shown g =
    judged_by line.strict (asks_attributes line) (reports_trailers line.verb) source bytes image shown g

-- an image that is held in full is judged like its file
judged_held : {A : Type 0} (line : Line) (bytes : List ℕ) (held : HeldImage A) → IsWholeOf (Some bytes) held
    → IsJudged (profile_of line) bytes (held_bytes held)
judged_held line bytes (Kept kept) h = absurd h
judged_held line bytes (Whole all) h =
    subst (IsJudged (profile_of line) bytes) (sym h) ((λ x. x, λ x. x), λ fault. (λ x. x, λ x. x))

pub judged_whole : {F A : Type 0} (line : Line) (bytes : List ℕ) (image : LoadedImage F A) → IsHeldWhole (Some bytes) image
    → IsJudged (profile_of line) bytes (loaded_bytes image)
judged_whole line bytes image h = judged_held line bytes image.held h

or_true : (a b : Bool) → b ≡ true → (a || b) ≡ true
or_true true b e = refl
or_true false b e = e

-- a mount refuses images that are accepted as mounted for lack of memory alone
pub mountable : (line mount : Line) (images : List (List ℕ)) (sizes : List ℕ) → AreAccepted line images sizes → line.as_mounted ≡ true
    → mount.strict ≡ line.strict → asks_attributes mount ≡ true → 1 ≤ length images
    → (r : Refusal) → AreRefused (profile_of mount) images r → r ≡ Memory
mountable line mount images sizes accepted said strict reads some r refused =
    let alike : asks_attributes mount ≡ asks_attributes line = reads ∙ sym (or_true line.attributes line.as_mounted said) in
    let good : AreLayers (profile_of line) images (map image images) = record {
      few = (some, accepted.few said);
      sound = accepted.sizes_are.sound;
      are = refl;
    } in
    good_are_taken (profile_of line) images (map image images) r good
    (subst (λ p. AreRefused p images r) (ap₂ profile_with strict alike) refused)
