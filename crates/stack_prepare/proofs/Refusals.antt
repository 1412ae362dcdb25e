-- Images are refused for one reason. `one_broken` is the main lemma: the lowest broken image is unique, as all below it keep the rules. So
-- there is one reason apart from lack of memory, and good images have only that.
use Rattle.std.proofs.Common.{◌≡◌, ◌∙◌, sym, ap, subst, ℕ, suc, ◌<◌, ◌⊎◌, inl, inr, List, [], ◌∷◌, ◌++◌, length, All, refl, arith}
use Rattle.std.proofs.lemmas.List.Elements.{All-head, All-tail}
use Rattle.stack_model.specs.declared.limits.TheConstants.{MAX_LAYERS}
use Rattle.romfs_format.specs.declared.rule.Profile.{Profile}
use Rattle.romfs_format.specs.declared.rule.Rule.{Rule}
use Rattle.romfs_format.specs.declared.rule.ImageFault.{ImageFault}
use Rattle.romfs_format.specs.Rules.{IsFault, IsSound}
use Rattle.romfs_format.proofs.Faults.{one_fault, no_fault}
use Rattle.stack_prepare.specs.declared.refusal.Refusal.{Refusal}
use Rattle.stack_prepare.specs.declared.refusal.Refusal.TheVariants.{Layer, Layers, Memory}
use Rattle.stack_prepare.specs.Layers.{IsFew, AreLayers, IsLowestBroken, AreRefused}

-- of images that keep the rules up to one that does not, there is one number
module _ (profile : Profile) (r s : Rule) (p q : ℕ) where
  one_place : (xs ys us vs : List (List ℕ)) (a b : List ℕ) → All (IsSound profile) xs → All (IsSound profile) ys
      → IsFault profile a r p → IsFault profile b s q
      → xs ++ a ∷ us ≡ ys ++ b ∷ vs → (length xs ≡ length ys) × (a ≡ b)
  one_place [] [] us vs a b f g x y e = (refl, cc)
  one_place [] (c ∷ ys) us vs a b f g x y e =
      let same : a ≡ c = cc in
      absurd (no_fault profile c r p (All-head (IsSound profile) c ys g) (subst (λ i. IsFault profile i r p) same x))
  one_place (c ∷ xs) [] us vs a b f g x y e =
      let same : b ≡ c = cc in
      absurd (no_fault profile c s q (All-head (IsSound profile) c xs f) (subst (λ i. IsFault profile i s q) same y))
  one_place (c ∷ xs) (d ∷ ys) us vs a b f g x y e =
      let rest : xs ++ a ∷ us ≡ ys ++ b ∷ vs = cc in
      let one = one_place xs ys us vs a b (All-tail (IsSound profile) c xs f) (All-tail (IsSound profile) d ys g) x y rest in
      (ap suc one.0, one.1)

same_fault : (f g : ImageFault) → f.rule ≡ g.rule → f.place ≡ g.place → f ≡ g
same_fault f g e h = ap (λ (r : Rule). record { rule = r; place = f.place }) e ∙ ap (λ (p : ℕ). record { rule = g.rule; place = p }) h

one_broken : (profile : Profile) (images : List (List ℕ)) (m n : ℕ) (f g : ImageFault) → IsLowestBroken profile images m f
    → IsLowestBroken profile images n g → Layer m f ≡ Layer n g
one_broken profile images m n f g x y =
    let at = one_place profile f.rule g.rule f.place g.place x.below y.below x.above y.above x.bytes y.bytes x.sound y.sound x.broken
    y.broken (sym x.images_are ∙ y.images_are) in
    let one = one_fault profile y.bytes f.rule g.rule f.place g.place (subst (λ b. IsFault profile b f.rule f.place) at.1 x.broken)
    y.broken in
    let number : m ≡ n = x.layer_is ∙ at.0 ∙ sym y.layer_is in
    let fault : f ≡ g = same_fault f g one.0 one.1 in
    cc

-- images that keep the rules have none that is broken
pub none_broken : (profile : Profile) (xs us : List (List ℕ)) (a : List ℕ) (r : Rule) (p : ℕ) → All (IsSound profile) (xs ++ a ∷ us)
    → ¬ IsFault profile a r p
none_broken profile [] us a r p f x = no_fault profile a r p (All-head (IsSound profile) a us f) x
none_broken profile (c ∷ xs) us a r p f x = none_broken profile xs us a r p (All-tail (IsSound profile) c (xs ++ a ∷ us) f) x

module _ (profile : Profile) (images : List (List ℕ)) where
  -- no image, or more than the most layers, are not few
  pub not_few : (count : ℕ) → (count ≡ length images) × ((count ≡ 0) ⊎ (MAX_LAYERS < count)) → ¬ IsFew (length images)
  not_few count (e, inl h) few = (let a = few.0 in omega arith)
  not_few count (e, inr h) few = (let a = few.1 in omega arith)

  -- a reason, but for lack of memory
  reason : (r : Refusal) → AreRefused profile images r
      → (r ≡ Memory) ⊎ (((n : ℕ) × (r ≡ Layers n) × AreRefused profile images (Layers n)) ⊎ ((n : ℕ) × (f : ImageFault) × (r ≡ Layer n f)
      × AreRefused profile images (Layer n f)))
  reason Memory x = inl refl
  reason (Layers n) x = inr (inl (n, refl, x))
  reason (Layer n f) x = inr (inr (n, f, refl, x))

  -- images are refused for one reason, or memory ran out
  pub one_reason : (r s : Refusal) → AreRefused profile images r → AreRefused profile images s → (r ≡ s) ⊎ ((r ≡ Memory) ⊎ (s ≡ Memory))
  one_reason r s x y =
      elim (reason r x) [
        | inl e ↦ inr (inl e)
        | inr (inl a) ↦ elim (reason s y) [
          | inl e ↦ inr (inr e)
          | inr (inl b) ↦ inl (a.1 ∙ ap Layers (a.2.0 ∙ sym b.2.0) ∙ sym b.1)
          | inr (inr b) ↦ absurd (not_few a.0 a.2 b.3.0)
        ]
        | inr (inr a) ↦ elim (reason s y) [
          | inl e ↦ inr (inr e)
          | inr (inl b) ↦ absurd (not_few b.0 b.2 a.3.0)
          | inr (inr b) ↦ inl (a.2 ∙ one_broken profile images a.0 b.0 a.1 b.1 a.3.1 b.3.1 ∙ sym b.2)
        ]
      ]

  -- images that keep the rules are refused for lack of memory alone
  pub good_are_taken : (layers : List (List ℕ)) (r : Refusal) → AreLayers profile images layers → AreRefused profile images r → r ≡ Memory
  good_are_taken layers r good x =
      elim (reason r x) [
        | inl e ↦ e
        | inr (inl a) ↦ absurd (not_few a.0 a.2 good.few)
        | inr (inr a) ↦ let b = a.3.1 in absurd (none_broken profile b.below b.above b.bytes a.1.rule a.1.place
            (subst (All (IsSound profile)) b.images_are good.sound) b.broken)
      ]
