-- What was gathered from images is refused like them (refused_alike): it is sound if they are, and has their faults. `AllGo` says that
-- what is said of each list's faults is said of another's; then if the one is parted, the other is (parted), and refused (refused_goes).
use Rattle.std.proofs.Common.{◌≡◌, ◌∙◌, ◌↔◌, sym, ap, subst, ℕ, zero, suc, ◌++◌, inl, inr, List, [], ◌∷◌, length, Option, Some, None, true≢false, refl, arith}
use Rattle.std.specs.Prelude.{All}
use Rattle.std.specs.List.{AllZip}
use Rattle.std.proofs.lemmas.List.Elements.{length_all_zip}
use Rattle.romfs_format.specs.declared.rule.Profile.{Profile}
use Rattle.romfs_format.specs.declared.rule.ImageFault.{ImageFault}
use Rattle.romfs_format.specs.Rules.{IsSound, IsFaultOf}
use Rattle.romfs_kept.proofs.Volumes.{same_fault}
use Rattle.romfs_kept.proofs.WithTrailer.{same_fault_with_trailer}
use Rattle.stack_prepare.specs.declared.refusal.Refusal.{Refusal}
use Rattle.stack_prepare.specs.declared.refusal.Refusal.TheVariants.{Layer, Layers, Memory}
use Rattle.stack_prepare.specs.Layers.{AreRefused, IsFew, IsLowestBroken}
use Rattle.serve_core.specs.Kept.{WasGatheredFor, WereGatheredFor}

pub fault_alike : (profile : Profile) (b a : List ℕ) → WasGatheredFor profile b a → (fault : Option ImageFault)
    → (IsFaultOf profile b fault → IsFaultOf profile a fault) × (IsFaultOf profile a fault → IsFaultOf profile b fault)
fault_alike profile b a (inl g) fault = same_fault_with_trailer b a g profile fault
fault_alike profile b a (inr g) fault = same_fault profile (λ y. true≢false (sym y ∙ g.0)) b a g.1 fault

-- lists are related as their pairs are, the one way and the other
pub forth : (R S : List ℕ → List ℕ → Type 0) → ((x y : List ℕ) → R x y → S x y) → (xs ys : List (List ℕ)) → AllZip R xs ys → AllZip S xs ys
forth R S one [] [] r = tt
forth R S one (x ∷ xs) (y ∷ ys) r = (one x y r.0, forth R S one xs ys r.1)
forth R S one [] (y ∷ ys) r = absurd r
forth R S one (x ∷ xs) [] r = absurd r

pub back : (R S : List ℕ → List ℕ → Type 0) → ((x y : List ℕ) → R x y → S y x) → (xs ys : List (List ℕ)) → AllZip R xs ys → AllZip S ys xs
back R S one [] [] r = tt
back R S one (x ∷ xs) (y ∷ ys) r = (one x y r.0, back R S one xs ys r.1)
back R S one [] (y ∷ ys) r = absurd r
back R S one (x ∷ xs) [] r = absurd r

-- what is said of the one's fault is said of the other's
abbrev pub Goes : Profile → List ℕ → List ℕ → Type 0
Goes profile x y = (fault : Option ImageFault) → IsFaultOf profile x fault → IsFaultOf profile y fault

-- so it is of each pair
abbrev pub AllGo : Profile → List (List ℕ) → List (List ℕ) → Type 0
AllGo profile xs ys = AllZip (Goes profile) xs ys

module _ (profile : Profile) where
  pub counts : (bs xs : List (List ℕ)) → WereGatheredFor profile bs xs → length bs ≡ length xs
  counts bs xs f = length_all_zip (WasGatheredFor profile) bs xs f

  pub go_forth : (bs xs : List (List ℕ)) → WereGatheredFor profile bs xs → AllGo profile bs xs
  go_forth bs xs f = forth (WasGatheredFor profile) (Goes profile) (λ b a g fault. (fault_alike profile b a g fault).0) bs xs f

  pub go_back : (bs xs : List (List ℕ)) → WereGatheredFor profile bs xs → AllGo profile xs bs
  go_back bs xs f = back (WasGatheredFor profile) (Goes profile) (λ b a g fault. (fault_alike profile b a g fault).1) bs xs f

  pub sound_goes : (xs ys : List (List ℕ)) → AllGo profile xs ys → All (IsSound profile) xs → All (IsSound profile) ys
  sound_goes [] [] g s k d l = absurd (omega arith)
  sound_goes (x ∷ xs) (y ∷ ys) g s zero d l = g.0 None (s 0 d (omega arith))
  sound_goes (x ∷ xs) (y ∷ ys) g s (suc k) d l = sound_goes xs ys g.1 (λ k d l. s (suc k) d (omega arith)) k d (omega arith)
  sound_goes [] (y ∷ ys) g s k d l = absurd g
  sound_goes (x ∷ xs) [] g s k d l = absurd g

  -- if the one list is parted, the other is
  pub record IsParted (below above : List (List ℕ)) (x : List ℕ) (ys : List (List ℕ)) : Type 0 where
    pub low : List (List ℕ)
    pub high : List (List ℕ)
    pub one : List ℕ
    pub are : ys ≡ low ++ one ∷ high
    pub long : length low ≡ length below
    pub lower : AllGo profile below low
    pub goes : Goes profile x one

  pub parted : (below above : List (List ℕ)) (x : List ℕ) (ys : List (List ℕ)) → AllGo profile (below ++ x ∷ above) ys
      → IsParted below above x ys
  parted [] above x (y ∷ ys) g = record { low = []; high = ys; one = y; are = refl; long = refl; lower = tt; goes = g.0 }
  parted [] above x [] g = absurd g
  parted (z ∷ below) above x (y ∷ ys) g =
      let r = parted below above x ys g.1 in
      record {
        low = y ∷ r.low;
        high = r.high;
        one = r.one;
        are = ap (λ xs. y ∷ xs) r.are;
        long = ap suc r.long;
        lower = (g.0, r.lower);
        goes = r.goes;
      }
  parted (z ∷ below) above x [] g = absurd g

  lowest_goes : (xs ys : List (List ℕ)) (n : ℕ) (f : ImageFault) → AllGo profile xs ys → IsLowestBroken profile xs n f
      → IsLowestBroken profile ys n f
  lowest_goes xs ys n f g i =
      let r = parted i.below i.above i.bytes ys (subst (λ zs. AllGo profile zs ys) i.images_are g) in
      record {
        below = r.low;
        above = r.high;
        bytes = r.one;
        images_are = r.are;
        layer_is = i.layer_is ∙ sym r.long;
        sound = sound_goes i.below r.low r.lower i.sound;
        broken = r.goes (Some f) i.broken;
      }

  pub refused_goes : (xs ys : List (List ℕ)) (r : Refusal) → length xs ≡ length ys → AllGo profile xs ys → AreRefused profile xs r
      → AreRefused profile ys r
  refused_goes xs ys (Layers count) e g i = (i.0 ∙ e, i.1)
  refused_goes xs ys (Layer layer fault) e g i = (subst (λ n. IsFew n) e i.0, lowest_goes xs ys layer fault g i.1)
  refused_goes xs ys Memory e g i = subst (λ n. IsFew n) e i

module _ (profile : Profile) (images kept : List (List ℕ)) (g : WereGatheredFor profile images kept) where
  pub refused_alike : (r : Refusal) → AreRefused profile kept r ↔ AreRefused profile images r
  refused_alike r = (
    refused_goes profile kept images r (sym (counts profile images kept g)) (go_back profile images kept g),
    refused_goes profile images kept r (counts profile images kept g) (go_forth profile images kept g),
  )
