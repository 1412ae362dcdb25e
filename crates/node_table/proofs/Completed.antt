-- All nodes completed, and all blocks summed. Changing is the loop over nodes, Summing the one over
-- images: each begins with nothing done, goes on by one, and ends with all (change_ended, sums_all).
use Rattle.std.proofs.Common.{◌≡◌, ◌≢◌, ◌∙◌, sym, ap, subst, ℕ, zero, suc, ◌+◌, ◌*◌, ◌/◌, ◌^◌, ◌<◌, ◌≤◌, inl, inr, List, [], ◌∷◌, length, take, get_or, map, refl, arith, get_or-set_other, get_or-set_same}
use Rattle.std.specs.Prelude.{slice_set}
use Rattle.std.specs.List.{AllByRecursion}
use Rattle.std.proofs.lemmas.Bool.{cases_order}
use Rattle.std.proofs.lemmas.List.{get_or_default, take_all}
use Rattle.std.proofs.lemmas.List.Sums.{sum_by_more}
use Rattle.romfs_reader.specs.Images.{IsImage}
use Rattle.stack_model.specs.Attributes.{blocks_of, blocks_all}

-- the elements below i are changed, and those from i on are not
pub record Changing {X : Type 0} (f : X → X) (old now : List X) (i : ℕ) : Type 0 where
  pub level : length now ≡ length old
  pub done : (k : ℕ) (d : X) → k < i → k < length old → get_or now k d ≡ f (get_or old k d)
  pub left : (k : ℕ) (d : X) → i ≤ k → get_or now k d ≡ get_or old k d

module _ {X : Type 0} (f : X → X) where
  -- before the first element nothing is changed
  pub change_begun : (old : List X) → Changing f old old 0
  change_begun old = record { level = refl; done = λ k d l m. absurd (omega arith); left = λ k d l. refl }

  -- when the element at a place is changed, all up to that place are
  pub element_changed : (old now now' : List X) (i : ℕ) (x y : X) → Changing f old now i → i < length now → x ≡ get_or now i x → y ≡ f x
      → now' ≡ slice_set now i y → length now' ≡ length now → Changing f old now' (i + 1)
  element_changed old now now' i x y c lt at e s len = record {
    level = len ∙ c.level;
    done = λ k d l m. elim (cases_order k i) [
      | inl q ↦ same k d q
      | inr (inl q) ↦ other k d (omega arith) ∙ c.done k d q m
      | inr (inr q) ↦ absurd (omega arith)
    ];
    left = λ k d l. other k d (omega arith) ∙ c.left k d (omega arith);
  }
    where
      other : (k : ℕ) (d : X) → k ≢ i → get_or now' k d ≡ get_or now k d
      other k d ne = ap (λ xs. get_or xs k d) s ∙ rw get_or-set_other refl

      same : (k : ℕ) (d : X) → k ≡ i → get_or now' k d ≡ f (get_or old k d)
      same k d q =
          let here : get_or now' i d ≡ y = ap (λ xs. get_or xs i d) s ∙ rw get_or-set_same refl in
          let was : x ≡ get_or old i d = at ∙ get_or_default now i x d lt ∙ c.left i d (omega arith) in
          subst (λ j. get_or now' j d ≡ f (get_or old j d)) (sym q) (here ∙ e ∙ ap f was)

  -- a list as long as another, with each element the changed one, is that list changed
  pub all_changed : (old now : List X) → length now ≡ length old → ((k : ℕ) (d : X) → k < length old → get_or now k d ≡ f (get_or old k d))
      → now ≡ map f old
  all_changed [] [] l g = refl
  all_changed [] (y ∷ now) l g = absurd (omega arith)
  all_changed (x ∷ old) [] l g = absurd (omega arith)
  all_changed (x ∷ old) (y ∷ now) l g = ap (λ z. z ∷ now) (g 0 y (omega arith))
      ∙ ap (λ zs. f x ∷ zs) (all_changed old now (omega arith) (λ k d m. g (suc k) d (omega arith)))

  -- after the last element the entire list is changed
  pub change_ended : (old now : List X) (i : ℕ) → length now ≤ i → Changing f old now i → now ≡ map f old
  change_ended old now i le c = all_changed old now c.level (λ k d m. let l = c.level in c.done k d (omega arith) m)

-- how far a sum of blocks has come
pub record Summing (images : List (List ℕ)) (blocks i : ℕ) : Type 0 where
  pub value : blocks ≡ blocks_all (take i images)
  pub few : blocks ≤ i * 2 ^ 23
  pub sound : AllByRecursion IsImage (take i images)

-- the blocks of no images are none
pub sums_nothing : (images : List (List ℕ)) → Summing images 0 0
sums_nothing [] = record { value = refl; few = omega arith; sound = tt }
sums_nothing (a ∷ images) = record { value = refl; few = omega arith; sound = tt }

-- one sound image more adds its blocks, rounded up
pub sums_on : (images : List (List ℕ)) (blocks i full : ℕ) (a : List ℕ) → Summing images blocks i → i < length images
    → a ≡ get_or images i a → full ≡ length a → IsImage a → Summing images (blocks + (full + 511) / 512) (i + 1)
sums_on images blocks i full a s lt at f image =
    let m = sum_by_more (λ (a : List ℕ). blocks_of (length a)) images i a lt in
    let n : (full + 511) / 512 ≡ blocks_of (length (get_or images i a)) = ap (λ k. (k + 511) / 512) f
    ∙ ap (λ (x : List ℕ). blocks_of (length x)) at in
    record {
      value = ap (λ b. b + (full + 511) / 512) s.value ∙ ap (λ k. blocks_all (take i images) + k) n ∙ sym m;
      few = (let few = s.few in let small = image.small in omega arith);
      sound = next images i s.sound lt at;
    }
  where
    next : (images : List (List ℕ)) (i : ℕ) → AllByRecursion IsImage (take i images) → i < length images → a ≡ get_or images i a
        → AllByRecursion IsImage (take (i + 1) images)
    next images i s lt at = let n : suc i ≡ i + 1 = omega arith in subst (λ n. AllByRecursion IsImage (take n images)) n
        (go images i s lt at)
      where
        go : (images : List (List ℕ)) (i : ℕ) → AllByRecursion IsImage (take i images) → i < length images → a ≡ get_or images i a
            → AllByRecursion IsImage (take (suc i) images)
        go [] i s lt at = absurd (omega arith)
        go (x ∷ images) zero s lt at = (subst IsImage at image, tt)
        go (x ∷ images) (suc i) s lt at = (s.0, go images i s.1 (omega arith) at)

-- after the last image the sum is that of all images, and all are sound
pub sums_all : (images : List (List ℕ)) (blocks i : ℕ) → Summing images blocks i → length images ≤ i → (blocks ≡ blocks_all images)
    × AllByRecursion IsImage images
sums_all images blocks i s le = let w = take_all i images le in
    (s.value ∙ ap blocks_all w, subst (λ (x : List (List ℕ)). AllByRecursion IsImage x) w s.sound)
