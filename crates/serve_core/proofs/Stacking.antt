-- What was gathered from images can be stacked if they can, and then has the same listing, rows and lists (stacked_forth, stacked_back);
-- and both stacks look the same, layer by layer (look_all).
use Rattle.std.proofs.Common.{◌≡◌, ◌∙◌, sym, ap, subst, ℕ, suc, inl, inr, List, [], ◌∷◌, length, map, refl, arith}
use Rattle.std.specs.Prelude.{All}
use Rattle.stack_model.specs.declared.owner.Owner.{Owner}
use Rattle.romfs_format.specs.declared.rule.Profile.{Profile}
use Rattle.romfs_format.specs.Fields.{image}
use Rattle.romfs_format.specs.Rules.{IsSound}
use Rattle.romfs_format.specs.Trailer.{rows_shown, lists_shown}
use Rattle.romfs_kept.proofs.WithTrailer.{same_rows_shown, same_lists_shown}
use Rattle.stack_model.specs.Listing.{Stacked, IsListing}
use Rattle.stack_prepare.specs.Layers.{IsFew}
use Rattle.stack_prepare.specs.Preparing.{AreStacked}
use Rattle.serve_core.specs.Kept.{WasGatheredFor, WereGatheredFor, over}
use Rattle.serve_core.proofs.Looks.{looks_alike}
use Rattle.serve_core.proofs.Layers.{LookSame, look_back, listing_goes}
use Rattle.serve_core.proofs.Refused.{counts, go_forth, go_back, sound_goes}

rows_alike : (profile : Profile) (b a : List ℕ) → WasGatheredFor profile b a → IsSound profile b
    → rows_shown profile a ≡ rows_shown profile b
rows_alike profile b a (inl g) s = same_rows_shown b a g profile s
rows_alike profile b a (inr g) s = rw g.0 refl

lists_alike : (profile : Profile) (b a : List ℕ) → WasGatheredFor profile b a → IsSound profile b
    → lists_shown profile a ≡ lists_shown profile b
lists_alike profile b a (inl g) s = same_lists_shown b a g profile s
lists_alike profile b a (inr g) s = rw g.0 refl

module _ (profile : Profile) where
  pub look_all : (bs xs : List (List ℕ)) → WereGatheredFor profile bs xs → All (IsSound profile) bs → LookSame (map image bs) (map image xs)
  look_all [] [] f s = tt
  look_all (b ∷ bs) (a ∷ xs) f s =
      (looks_alike profile b a f.0 (s 0 [] (omega arith)), look_all bs xs f.1 (λ k d l. s (suc k) d (omega arith)))
  look_all [] (a ∷ xs) f s = absurd f
  look_all (b ∷ bs) [] f s = absurd f

  pub rows_all : (bs xs : List (List ℕ)) → WereGatheredFor profile bs xs → All (IsSound profile) bs
      → map (rows_shown profile) xs ≡ map (rows_shown profile) bs
  rows_all [] [] f s = refl
  rows_all (b ∷ bs) (a ∷ xs) f s =
      ap (λ r. r ∷ map (rows_shown profile) xs) (rows_alike profile b a f.0 (s 0 [] (omega arith)))
      ∙ ap (λ rs. rows_shown profile b ∷ rs) (rows_all bs xs f.1 (λ k d l. s (suc k) d (omega arith)))
  rows_all [] (a ∷ xs) f s = absurd f
  rows_all (b ∷ bs) [] f s = absurd f

  pub lists_all : (bs xs : List (List ℕ)) → WereGatheredFor profile bs xs → All (IsSound profile) bs
      → map (lists_shown profile) xs ≡ map (lists_shown profile) bs
  lists_all [] [] f s = refl
  lists_all (b ∷ bs) (a ∷ xs) f s =
      ap (λ r. r ∷ map (lists_shown profile) xs) (lists_alike profile b a f.0 (s 0 [] (omega arith)))
      ∙ ap (λ ls. lists_shown profile b ∷ ls) (lists_all bs xs f.1 (λ k d l. s (suc k) d (omega arith)))
  lists_all [] (a ∷ xs) f s = absurd f
  lists_all (b ∷ bs) [] f s = absurd f

module _ (profile : Profile) (images kept : List (List ℕ)) (g : WereGatheredFor profile images kept) where
  many : length images ≡ length kept
  many = counts profile images kept g

  module _ (owner : Owner) where
    pub stacked_back : (stack : Stacked) → AreStacked profile owner kept stack → AreStacked profile owner images (over images stack)
    stacked_back stack s =
        let sound = sound_goes profile kept images (go_back profile images kept g) s.layers.sound in
        let looks = look_all profile images kept g sound in
        record {
          layers = record { few = subst (λ n. IsFew n) (sym many) s.layers.few; sound = sound; are = refl };
          rows_are = s.rows_are ∙ rows_all profile images kept g sound;
          lists_are = s.lists_are ∙ lists_all profile images kept g sound;
          owner_is = s.owner_is;
          listing = listing_goes (map image kept) (map image images) (look_back (map image images) (map image kept) looks) stack.entries
              (subst (λ ls. IsListing ls stack.entries) s.layers.are s.listing);
        }

    pub stacked_forth : (stack : Stacked) → AreStacked profile owner images stack → AreStacked profile owner kept (over kept stack)
    stacked_forth stack s =
        let sound = s.layers.sound in
        let looks = look_all profile images kept g sound in
        record {
          layers = record {
            few = subst (λ n. IsFew n) many s.layers.few;
            sound = sound_goes profile images kept (go_forth profile images kept g) sound;
            are = refl;
          };
          rows_are = s.rows_are ∙ sym (rows_all profile images kept g sound);
          lists_are = s.lists_are ∙ sym (lists_all profile images kept g sound);
          owner_is = s.owner_is;
          listing = listing_goes (map image images) (map image kept) looks stack.entries
              (subst (λ ls. IsListing ls stack.entries) s.layers.are s.listing);
        }
