-- Numbers that each occur once, in any order. The main lemma is `in_order`: a list that does not fall and has each number of a range once
-- is the range, since it can begin neither below it nor beyond.
use Rattle.std.proofs.Common.{◌≡◌, ℕ, zero, suc, ◌+◌, ◌<◌, ◌≤◌, ◌≢◌, cond, eqb, List, [], ◌∷◌, refl, ap, arith, eq-eqb, ne_eqb, lt_of_not-le, map}
use mathlib.Core.Logic.{dite}
use native.Mathlib.Decide.{dec_le}
use Rattle.std.specs.List.{range_with_len}
use Rattle.std.specs.List.Sorted.{IsNonDecreasingBy}
use Rattle.std.proofs.lemmas.List.Sums.{sum_by-cons}
use Rattle.draw_board.specs.Positions.{times}

-- how often x is y
abbrev pub one : ℕ → ℕ → ℕ
one y x = cond (eqb y x) 1 0

one-same : (y x : ℕ) → y ≡ x → one y x ≡ 1
one-same y x e = ap (λ b. cond b 1 0) (eq-eqb y x e)

one-other : (y x : ℕ) → y ≢ x → one y x ≡ 0
one-other y x n = ap (λ b. cond b 1 0) (ne_eqb y x n)

-- a number occurs in a list as often as at its front and after that
pub times-cons : (x y : ℕ) (l : List ℕ) → times x (y ∷ l) ≡ one y x + times x l
times-cons x y l = sum_by-cons (λ z. one z x) y l

-- no number below a range occurs in it
below : (x a n : ℕ) → x < a → times x (range_with_len a n) ≡ 0
below x a zero h = refl
below x a (suc n) h = omega (
  arith,
  times-cons x a (range_with_len (a + 1) n),
  one-other a x (λ e. omega arith),
  below x (a + 1) n (omega arith),
)

module _ {P : Type 0} (number : P → ℕ) where
  -- a number below the first of a list that does not fall does not occur in it
  none_before : (p : P) (l : List P) (x : ℕ) → IsNonDecreasingBy number (p ∷ l) → x < number p → times x (map number (p ∷ l)) ≡ 0
  none_before p [] x up h = omega (arith, times-cons x (number p) [], one-other (number p) x (λ e. omega arith))
  none_before p (q ∷ l) x up h =
      let first : number p ≤ number q = up 0 1 p (omega arith) (omega arith) in
      let rest = none_before q l x (λ i j d le lt. up (suc i) (suc j) d (omega arith) (omega arith)) (omega arith) in
      omega (arith, times-cons x (number p) (map number (q ∷ l)), one-other (number p) x (λ e. omega arith))

  -- what does not fall and has each number of a range once is the range
  pub in_order : (l : List P) (a n : ℕ) → IsNonDecreasingBy number l → ((x : ℕ) → times x (map number l) ≡ times x (range_with_len a n))
      → map number l ≡ range_with_len a n
  in_order [] a zero up once = refl
  in_order [] a (suc n) up once = let here = once a in absurd (omega (arith, times-cons a a (range_with_len (a + 1) n), one-same a a refl))
  in_order (p ∷ l) a zero up once = let here = once (number p) in
      absurd (omega (arith, times-cons (number p) (number p) (map number l), one-same (number p) (number p) refl))
  in_order (p ∷ l) a (suc n) up once = λ i. first i ∷ in_order l (a + 1) n (λ i j d le lt. up (suc i) (suc j) d (omega arith) (omega arith))
      rest i
    where
      not_above : number p ≤ a
      not_above = dite (dec_le (number p) a) (λ d. d) (λ d. let gt : a < number p = lt_of_not-le d in
          let none = none_before p l a up gt in let here = once a in
          absurd (omega (arith, times-cons a a (range_with_len (a + 1) n), one-same a a refl)))

      not_below : a ≤ number p
      not_below = dite (dec_le a (number p)) (λ d. d) (λ d. let lt : number p < a = lt_of_not-le d in
          let none = below (number p) a (suc n) lt in let here = once (number p) in
          absurd (omega (arith, times-cons (number p) (number p) (map number l), one-same (number p) (number p) refl)))

      first : number p ≡ a
      first = let le = not_above in let ge = not_below in omega arith

      rest : (x : ℕ) → times x (map number l) ≡ times x (range_with_len (a + 1) n)
      rest x = let here = once x in let same = ap (λ (y : ℕ). one y x) first in
          omega (arith, times-cons x (number p) (map number l), times-cons x a (range_with_len (a + 1) n))
