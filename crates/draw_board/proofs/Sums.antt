-- Sums over the elements of a list, of which one changes or is all. `sum_by-set` is the change; `all_here` is its counterpart for a sum at
-- one place.
use Rattle.std.proofs.Common.{◌≡◌, ℕ, zero, suc, ◌+◌, ◌≤◌, List, [], ◌∷◌, sum_by, set, sym, refl, ap, arith}
use mathlib.Core.Option.{some, some-injective, some-ne-none}
use lib.ListN.{get_elem?}
use Rattle.std.proofs.lemmas.List.Sums.{sum_by-cons}

module _ {A : Type 0} where
  module _ (f : A → ℕ) where
    -- a sum changes by what one element changes
    pub sum_by-set : (l : List A) (i : ℕ) (v w : A) → get_elem? l i ≡ some v → sum_by f (set l i w) + f v ≡ sum_by f l + f w
    sum_by-set [] i v w e = absurd (some-ne-none v (sym e))
    sum_by-set (x ∷ xs) zero v w e = omega (arith, ap f (some-injective x v e), sum_by-cons f x xs, sum_by-cons f w xs)
    sum_by-set (x ∷ xs) (suc i) v w e = omega (arith, sum_by-set xs i v w e, sum_by-cons f x xs, sum_by-cons f x (set xs i w))

    -- no term is above the sum
    pub term_le : (l : List A) (i : ℕ) (v : A) → get_elem? l i ≡ some v → f v ≤ sum_by f l
    term_le [] i v e = absurd (some-ne-none v (sym e))
    term_le (x ∷ xs) zero v e = omega (arith, ap f (some-injective x v e), sum_by-cons f x xs)
    term_le (x ∷ xs) (suc i) v e = omega (arith, term_le xs i v e, sum_by-cons f x xs)

    -- if all terms are 0, so is the sum
    pub all_zero : (l : List A) → ((i : ℕ) (v : A) → get_elem? l i ≡ some v → f v ≡ 0) → sum_by f l ≡ 0
    all_zero [] h = refl
    all_zero (x ∷ xs) h = omega (arith, h 0 x refl, all_zero xs (λ i v e. h (suc i) v e), sum_by-cons f x xs)

  module _ (f g : A → ℕ) where
    -- if no term is above another's, no sum is
    pub sum_by-le : (l : List A) → ((i : ℕ) (v : A) → get_elem? l i ≡ some v → f v ≤ g v) → sum_by f l ≤ sum_by g l
    sum_by-le [] h = omega arith
    sum_by-le (x ∷ xs) h = omega (arith, h 0 x refl, sum_by-le xs (λ i v e. h (suc i) v e), sum_by-cons f x xs, sum_by-cons g x xs)

    -- if g adds up to 0, and f is 0 where g is
    none_left : (l : List A) → sum_by g l ≡ 0 → ((i : ℕ) (v : A) → get_elem? l i ≡ some v → g v ≡ 0 → f v ≡ 0) → sum_by f l ≡ 0
    none_left [] z h = refl
    none_left (x ∷ xs) z h = let s = sum_by-cons g x xs in
        omega (
          arith,
          h 0 x refl (omega arith),
          none_left xs (omega arith) (λ i v e. h (suc i) v e),
          sum_by-cons f x xs,
        )

    -- if all of g is at one place, and f is 0 where g is, all of f is there
    pub all_here : (l : List A) (i : ℕ) (v : A) → get_elem? l i ≡ some v → sum_by g l ≡ g v
        → ((j : ℕ) (w : A) → get_elem? l j ≡ some w → g w ≡ 0 → f w ≡ 0) → sum_by f l ≡ f v
    all_here [] i v e all h = absurd (some-ne-none v (sym e))
    all_here (x ∷ xs) zero v e all h = let same = some-injective x v e in let p = ap f same in let q = ap g same in let s =
        sum_by-cons g x xs in
        omega (arith, none_left xs (omega arith) (λ j w. h (suc j) w), sum_by-cons f x xs)
    all_here (x ∷ xs) (suc i) v e all h = let le = term_le g xs i v e in let s = sum_by-cons g x xs in let none : g x ≡ 0 = omega arith in
        omega (arith, h 0 x refl none, all_here xs i v e (omega arith) (λ j w. h (suc j) w), sum_by-cons f x xs)
