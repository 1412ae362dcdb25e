-- What was gathered from images for a line. It was, if the line's sources show images (of_files), and these are served (served_shown). The
-- images can be stacked (good_of_files), and requests get the replies that are defined over them, if reads return their bytes
-- (told_of_files); whatever reads return, all but READs do (told_others).
use Rattle.std.proofs.Common.{◌≡◌, ◌≢◌, ◌∙◌, ◌≤◌, ◌⊎◌, ◌↔◌, ◌||◌, sym, ap, subst, ℕ, inl, inr, List, [], ◌∷◌, Bool, true, false, length, map, Some, None, arith, refl, if◌then◌else◌}
use Rattle.devices.specs.Sources.{Source, IfShown, held}
use Rattle.romfs_files.specs.declared.loaded.Trailers.{Trailers}
use Rattle.romfs_files.specs.declared.loaded.Trailers.TheVariants.{Read, Left}
use Rattle.romfs_files.specs.Loaded.{WasGathered}
use Rattle.romfs_kept.specs.Gathered.{IsGatheredOf, IsGatheredWithTrailerOf}
use Rattle.romfs_format.specs.Profiles.{reads_attributes}
use Rattle.stack_model.specs.Listing.{Stacked}
use Rattle.stack_prepare.specs.Preparing.{AreStacked}
use Rattle.fuse_wire.specs.Requests.{Asked, at_node, read}
use Rattle.reply_model.specs.declared.session.Session.{Session}
use Rattle.reply_model.specs.Replies.{reply}
use Rattle.reply_model.specs.Readings.{Sourced, sourced, AreShown, IsReplyOver}
use Rattle.serve_core.specs.Kept.{WasGatheredFrom, WereGatheredFor, WereGatheredFrom, AreStacksOf, AreServedAs, over}
use Rattle.serve_core.proofs.Answered as answered
use Rattle.serve_core.proofs.Shown.{gathered_of, shown_served}
use Rattle.serve_core.proofs.Stacking.{stacked_back}
use Rattle.strata_words.specs.declared.options.Line.{Line}
use Rattle.strata_images.specs.Images.{asks_attributes, profile_of, reports_trailers, trailers_of, IsDataOf, AreDataOf, AreHeldWhole, ArePrepared}
use Rattle.strata_images.proofs.Rules.{reads}

-- with the trailer, if attributes are asked for or trailers reported
pub by_trailers : (attributes reports reads : Bool) (source : Source) (a : List ℕ) → reads ≡ attributes
    → WasGathered (if attributes || reports then Read else Left) source a
    → IfShown source (λ b. IsGatheredWithTrailerOf b a ⊎ ((reads ≡ false) × IsGatheredOf b a))
by_trailers true reports reads source a e g = record { each = λ b v. inl (g.each b v) }
by_trailers false true reads source a e g = record { each = λ b v. inl (g.each b v) }
by_trailers false false reads source a e g = record { each = λ b v. inr (e, g.each b v) }

module _ (line : Line) where
  all_gathered : (kept : List (List ℕ)) (sources : List Source) → AreDataOf (trailers_of line) kept sources
      → WereGatheredFrom (profile_of line) sources kept
  all_gathered [] [] d = tt
  all_gathered (a ∷ kept) (source ∷ sources) d = (
    by_trailers (asks_attributes line) (reports_trailers line.verb) (reads_attributes (profile_of line)) source a (reads line) d.0,
    all_gathered kept sources d.1,
  )
  all_gathered [] (source ∷ sources) d = absurd d
  all_gathered (a ∷ kept) [] d = absurd d

  -- sources that show images are those of images in files
  in_files : (whole : Bool) (kept images : List (List ℕ)) (sources : List Source) → 1 ≤ length images → AreShown sources images
      → AreHeldWhole whole sources ⊎ AreDataOf (trailers_of line) kept sources → AreDataOf (trailers_of line) kept sources
  in_files whole kept images sources some shown (inr d) = d
  in_files whole kept [] sources some shown (inl h) = absurd (omega arith)
  in_files whole kept (b ∷ images) [] some shown (inl h) = absurd shown
  in_files whole kept (b ∷ images) (source ∷ sources) some shown (inl h) = absurd (let e = h.1 in cc)

module _ (line : Line) (kept images : List (List ℕ)) (by : Sourced) (prepared : ArePrepared line kept by) where
  from_sources : 1 ≤ length images → AreShown by.sources images → WereGatheredFrom (profile_of line) by.sources kept
  from_sources some shown = all_gathered line kept by.sources
      (in_files line by.stack.whole kept images by.sources some shown prepared.sources.either)

  pub of_files : 1 ≤ length images → AreShown by.sources images → WereGatheredFor (profile_of line) images kept
  of_files some shown = gathered_of (profile_of line) by.sources images kept (from_sources some shown) shown

  pub served_shown : 1 ≤ length images → AreShown by.sources images → AreServedAs (profile_of line) line.owner by images
  served_shown some shown = shown_served (profile_of line) line.owner by images kept (from_sources some shown) prepared.stacked shown

  module _ (gathered : WereGatheredFor (profile_of line) images kept) where
    pub good_of_files : AreStacked (profile_of line) line.owner images (over images by.stack)
    good_of_files = stacked_back (profile_of line) images kept gathered line.owner by.stack prepared.stacked

    module _ (whole : Stacked) (stacked : AreStacked (profile_of line) line.owner images whole)
        (s : Session) (q : Asked) (bytes : List ℕ) where
      stacks : AreStacksOf images by.stack whole
      stacks = record {
        profile = profile_of line;
        owner = line.owner;
        kept = kept;
        kept_are = gathered;
        of_kept = prepared.stacked;
        of_images = stacked;
      }

      pub told_of_files : IsReplyOver (sourced by.stack (map held images)) s q bytes ↔ (bytes ≡ reply whole s q)
      told_of_files = (
        answered.told_alike images by.stack whole stacks s q bytes,
        answered.told_too images by.stack whole stacks s q bytes,
      )

      pub told_others : IsReplyOver by s q bytes → ((offset size : ℕ) → q.op ≢ at_node (read offset size)) → bytes ≡ reply whole s q
      told_others = answered.told_others images by.stack whole stacks by.sources s q bytes
