-- The numbers among positions, and the history of a counter. `all_numbers` says which numbers this many draws give, and `both_numbers` that
-- of two hands none is lost.
use Rattle.std.proofs.Common.{◌≡◌, ℕ, zero, suc, ◌+◌, ◌<◌, ◌≤◌, cond, Bool, true, false, ltb, List, [], ◌∷◌, ◌++◌, refl, sym, ap, ◌∙◌, arith, lt-ltb, le-ltb, sum_by}
use Rattle.std.specs.List.{range_with_len}
use Rattle.std.proofs.lemmas.List.FromFn.{map-range_with_len_more}
use Rattle.std.proofs.lemmas.List.Sums.{sum_by-cons, sum_by-append}
use Rattle.std.proofs.lemmas.List.Sorted.{sum_by-IsPermutation}
use Rattle.draw_board.specs.Counter.{drawn_at, history}
use Rattle.draw_board.specs.Positions.{Unites, numbers, times}
use Rattle.draw_board.proofs.Rising.{one}

-- one draw more makes the history longer by this draw
pub one_more : (total n : ℕ) → history total (n + 1) ≡ history total n ++ drawn_at total n ∷ []
one_more total n = map-range_with_len_more (drawn_at total) 0 n n (omega arith)

numbers-in : (total p : ℕ) (l : List ℕ) → p < total → numbers total (p ∷ l) ≡ p ∷ numbers total l
numbers-in total p l h = ap (λ b. cond b (p ∷ numbers total l) (numbers total l)) (lt-ltb p total h)

numbers-out : (total p : ℕ) (l : List ℕ) → total ≤ p → numbers total (p ∷ l) ≡ numbers total l
numbers-out total p l h = ap (λ b. cond b (p ∷ numbers total l) (numbers total l)) (le-ltb p total h)

-- from the total on there is no number
numbers-past : (total a n : ℕ) → total ≤ a → numbers total (range_with_len a n) ≡ []
numbers-past total a zero h = refl
numbers-past total a (suc n) h = numbers-out total a (range_with_len (a + 1) n) h ∙ numbers-past total (a + 1) n (omega arith)

numbers-range : (total a k n : ℕ) → a + k ≡ total → k ≤ n → numbers total (range_with_len a n) ≡ range_with_len a k
numbers-range total a zero n e h = numbers-past total a n (omega arith)
numbers-range total a (suc k) zero e h = absurd (omega arith)
numbers-range total a (suc k) (suc n) e h = numbers-in total a (range_with_len (a + 1) n) (omega arith)
    ∙ ap (λ (l : List ℕ). a ∷ l) (numbers-range total (a + 1) k n (omega arith) (omega arith))

-- positions from 0 to the total or further have all numbers among them, in order
pub all_numbers : (total n : ℕ) → total ≤ n → numbers total (range_with_len 0 n) ≡ range_with_len 0 total
all_numbers total n h = numbers-range total 0 total n (omega arith) h

-- how often x is y, if y is a number
abbrev among : ℕ → ℕ → ℕ → ℕ
among total x y = cond (ltb y total) (one y x) 0

times-numbers : (total x : ℕ) (l : List ℕ) → times x (numbers total l) ≡ sum_by (among total x) l
times-numbers total x [] = refl
times-numbers total x (y ∷ ys) = cases (ltb y total) ∙ (omega (arith, times-numbers total x ys) ∙ sym (sum_by-cons (among total x) y ys))
  where
    cases : (b : Bool) → times x (cond b (y ∷ numbers total ys) (numbers total ys)) ≡ cond b (one y x) 0 + times x (numbers total ys)
    cases true = sum_by-cons (λ z. one z x) y (numbers total ys)
    cases false = omega arith

-- a number occurs among those of a union as often as among those of both
pub both_numbers : (total x : ℕ) (mine others all : List ℕ) → Unites mine others all
    → times x (numbers total all) ≡ times x (numbers total mine) + times x (numbers total others)
both_numbers total x mine others all u = let f : ℕ → ℕ = among total x in
    omega (
      arith,
      times-numbers total x all,
      times-numbers total x mine,
      times-numbers total x others,
      sum_by-IsPermutation f (mine ++ others) all u.both,
      sum_by-append f mine others,
    )
