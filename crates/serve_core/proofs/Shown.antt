-- What was gathered from sources was gathered from the images that they show (gathered_of), so it is refused for the same faults
-- (shown_refused), and served as they are (shown_stacks, shown_served). Memory shows what it has (from_held, held_shown).
use Rattle.std.proofs.Common.{subst, List, [], ◌∷◌, ℕ, ◌↔◌, map}
use Rattle.devices.specs.Sources.{Source, held}
use Rattle.romfs_format.specs.declared.rule.Profile.{Profile}
use Rattle.stack_model.specs.declared.owner.Owner.{Owner}
use Rattle.stack_prepare.specs.declared.refusal.Refusal.{Refusal}
use Rattle.stack_prepare.specs.Layers.{AreRefused}
use Rattle.stack_prepare.specs.Preparing.{AreStacked}
use Rattle.reply_model.specs.Holding.{AreHeldBy}
use Rattle.reply_model.specs.Readings.{Sourced, AreShown}
use Rattle.serve_core.specs.Kept.{WasGatheredFor, WereGatheredFor, WereGatheredFrom, AreStacksOf, AreServedAs, over}
use Rattle.serve_core.proofs.Answered.{told_right, moved_alike}
use Rattle.serve_core.proofs.Refused.{refused_alike}
use Rattle.serve_core.proofs.Stacking.{stacked_back}

pub gathered_of : (profile : Profile) (sources : List Source) (images kept : List (List ℕ)) → WereGatheredFrom profile sources kept
    → AreShown sources images → WereGatheredFor profile images kept
gathered_of profile [] [] [] g s = tt
gathered_of profile (x ∷ sources) (b ∷ images) (a ∷ kept) g s = (g.0.each b s.0, gathered_of profile sources images kept g.1 s.1)
gathered_of profile [] [] (a ∷ kept) g s = absurd g
gathered_of profile [] (b ∷ images) kept g s = absurd s
gathered_of profile (x ∷ sources) [] kept g s = absurd s
gathered_of profile (x ∷ sources) (b ∷ images) [] g s = absurd g

pub shown_refused : (profile : Profile) (sources : List Source) (images kept : List (List ℕ)) → WereGatheredFrom profile sources kept
    → AreShown sources images → (r : Refusal) → (AreRefused profile kept r ↔ AreRefused profile images r)
shown_refused profile sources images kept g s = refused_alike profile images kept (gathered_of profile sources images kept g s)

module _ (profile : Profile) (owner : Owner) (by : Sourced) (images kept : List (List ℕ)) (g : WereGatheredFrom profile by.sources kept)
    (stacked : AreStacked profile owner kept by.stack) (s : AreShown by.sources images) where
  pub shown_stacks : AreStacksOf images by.stack (over images by.stack)
  shown_stacks = record {
    profile = profile;
    owner = owner;
    kept = kept;
    kept_are = gathered_of profile by.sources images kept g s;
    of_kept = stacked;
    of_images = stacked_back profile images kept (gathered_of profile by.sources images kept g s) owner by.stack stacked;
  }

  pub shown_served : AreServedAs profile owner by images
  shown_served = record {
    good = stacked_back profile images kept (gathered_of profile by.sources images kept g s) owner by.stack stacked;
    told = told_right images by.stack (over images by.stack) shown_stacks by.sources s;
    moved = moved_alike images by.stack (over images by.stack) shown_stacks;
  }

-- what was gathered from images was gathered so from memory that has them
pub from_held : (profile : Profile) (images kept : List (List ℕ)) → WereGatheredFor profile images kept
    → WereGatheredFrom profile (map held images) kept
from_held profile [] [] g = tt
from_held profile (b ∷ images) (a ∷ kept) g =
    (record { each = λ xs is. subst (λ (x : List ℕ). WasGatheredFor profile x a) is g.0 }, from_held profile images kept g.1)
from_held profile [] (a ∷ kept) g = absurd g
from_held profile (b ∷ images) [] g = absurd g

-- what is held is shown
pub held_shown : (sources : List Source) (images : List (List ℕ)) → AreHeldBy sources images → AreShown sources images
held_shown [] [] h = tt
held_shown (x ∷ sources) (xs ∷ images) h = (h.0.shows, held_shown sources images h.1)
held_shown [] (xs ∷ images) h = absurd h
held_shown (x ∷ sources) [] h = absurd h
