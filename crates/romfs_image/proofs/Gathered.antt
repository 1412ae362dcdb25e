-- What was gathered from bytes is judged as they are (judged_alike), with their trailer under every profile (judged_with_trailer).
use Rattle.std.proofs.Common.{◌≡◌, ℕ, List, ◌↔◌, Some, None, IsTrue}
use Rattle.romfs_format.specs.declared.rule.Profile.{Profile}
use Rattle.romfs_format.specs.Profiles.{reads_attributes}
use Rattle.romfs_format.specs.Rules.{IsSound}
use Rattle.romfs_format.specs.Trailer.{lists_shown, rows_shown}
use Rattle.romfs_kept.specs.Gathered.{IsGatheredOf, IsGatheredWithTrailerOf}
use Rattle.romfs_kept.proofs.Volumes.{same_fault}
use Rattle.romfs_kept.proofs.WithTrailer.{same_fault_with_trailer, same_lists_shown, same_rows_shown}
use Rattle.romfs_image.specs.declared.refusal.CheckFault.{CheckFault}
use Rattle.romfs_image.specs.declared.refusal.CheckFault.TheVariants.{Broken, Memory}
use Rattle.romfs_image.specs.Refusals.{IsRefusal}

module _ (profile : Profile) (plain : ¬ IsTrue (reads_attributes profile)) (b a : List ℕ) (g : IsGatheredOf b a) where
  refused_alike : (fault : CheckFault) → IsRefusal profile a fault ↔ IsRefusal profile b fault
  refused_alike (Broken fault) = (let s = same_fault profile plain b a g (Some fault) in (s.1, s.0))
  refused_alike Memory = (λ x. x, λ x. x)

  pub judged_alike : (IsSound profile a ↔ IsSound profile b) × ((fault : CheckFault) → IsRefusal profile a fault ↔ IsRefusal profile b
      fault)
  judged_alike = (let s = same_fault profile plain b a g None in ((s.1, s.0), refused_alike))

module _ (profile : Profile) (b a : List ℕ) (g : IsGatheredWithTrailerOf b a) where
  refused_with_trailer : (fault : CheckFault) → IsRefusal profile a fault ↔ IsRefusal profile b fault
  refused_with_trailer (Broken fault) = (let s = same_fault_with_trailer b a g profile (Some fault) in (s.1, s.0))
  refused_with_trailer Memory = (λ x. x, λ x. x)

  pub judged_with_trailer : (IsSound profile a ↔ IsSound profile b)
      × ((fault : CheckFault) → IsRefusal profile a fault ↔ IsRefusal profile b fault)
      × (IsSound profile b → (rows_shown profile a ≡ rows_shown profile b) × (lists_shown profile a ≡ lists_shown profile b))
  judged_with_trailer =
      let s = same_fault_with_trailer b a g profile None in (
        (s.1, s.0),
        refused_with_trailer,
        (λ sound. (same_rows_shown b a g profile sound, same_lists_shown b a g profile sound)),
      )
