-- The first bytes of an image were gathered from it (itself), so of images, under a profile that reads no attributes (all_themselves).
use Rattle.std.proofs.Common.{◌≡◌, ◌∙◌, ap, ℕ, ◌==◌, List, [], ◌∷◌, true, false, IsTrue, length, map, inr, take, get_or, min, refl, arith, length-take}
use Rattle.std.proofs.lemmas.Bool.Decides.{nat_tests}
use Rattle.romfs_format.specs.declared.rule.Profile.{Profile}
use Rattle.romfs_format.specs.Profiles.{reads_attributes}
use Rattle.romfs_kept.specs.Footprint.{is_same, reach}
use Rattle.romfs_kept.specs.Gathered.{IsGatheredOf}
use Rattle.serve_core.specs.Kept.{WereGatheredFor}

same_true : (x y : ℕ) → x ≡ y → IsTrue (x == y)
same_true x y e = grind (arith, nat_tests)

pub itself : (b : List ℕ) → IsGatheredOf b (take (reach b) b)
itself b =
    let a : List ℕ = take (reach b) b in
    let l : length a ≡ reach b = length-take (reach b) b ∙ (let z : min (reach b) (length b) ≡ reach b = omega arith in z) in
    let e : take (length a) b ≡ a = ap (λ n. take n b) l in
    let s : (p : ℕ) → IsTrue (is_same (take (length a) b) a p) = λ p. same_true _ _ (ap (λ xs. get_or xs p 0) e) in
    record {
      long = l;
      headers = λ h. true;
      closed = record {
        front = λ p x y. s p;
        at_root = refl;
        head = λ h i x y z. s _;
        text = λ h x. record { each = λ i y z w. s _ };
        target = λ h x. record { each = λ k m n o i y z. s _ };
        to_next = λ h x y z. refl;
        to_first = λ h x y z. refl;
        to_link = λ h x y z. refl;
      };
    }

pub all_themselves : (profile : Profile) → reads_attributes profile ≡ false → (images : List (List ℕ))
    → WereGatheredFor profile images (map (λ b. take (reach b) b) images)
all_themselves profile e [] = tt
all_themselves profile e (b ∷ images) = (inr (e, itself b), all_themselves profile e images)
