-- n + 1 numbers below n are not all different (`no_room`): if they were, the last one could replace
-- the greatest (`swapped`), which would leave n different numbers below n - 1.
use Rattle.std.proofs.Common.{◌≡◌, ◌≢◌, ℕ, zero, suc, ◌<◌, ◌≤◌, ◌⊎◌, inl, inr, cond, ◌==◌, arith}
use Rattle.std.proofs.lemmas.Bool.{cases_order}
use Rattle.std.proofs.lemmas.Bool.Decides.{nat_tests}

-- f with m replaced by v
swapped : ℕ → ℕ → (ℕ → ℕ) → ℕ → ℕ
swapped m v f i = cond (f i == m) v (f i)

swapped_is : (m v : ℕ) (f : ℕ → ℕ) (i : ℕ) → ((f i ≡ m) × (swapped m v f i ≡ v)) ⊎ ((f i ≢ m) × (swapped m v f i ≡ f i))
unfolding swapped
swapped_is m v f i = elim (cases_order (f i) m) [
  | inl e ↦ inl (e, grind (arith, nat_tests))
  | inr o ↦ (let n : f i ≢ m = (λ e. elim o [ inl l ↦ omega arith | inr l ↦ omega arith ]) in inr (n, grind (arith, nat_tests)))
]

-- a function cannot take the numbers up to n to different numbers below n
pub no_room : (n : ℕ) (f : ℕ → ℕ) → ((i : ℕ) → i ≤ n → f i < n) → ((i j : ℕ) → i < j → j ≤ n → f i ≢ f j) → ⊥
no_room zero f below apart = let h : f 0 < 0 = below 0 (omega arith) in omega arith
no_room (suc m) f below apart =
    let v = f (suc m) in
    let last : v < suc m = below (suc m) (omega arith) in
    let small : (i : ℕ) → i ≤ m → swapped m v f i < m = (λ i l.
    let b : f i < suc m = below i (omega arith) in
    let q : f i ≢ f (suc m) = apart i (suc m) (omega arith) (omega arith) in
    elim (swapped_is m v f i) [
      | inl s ↦ (let s0 = s.0 in let s1 = s.1 in omega arith)
      | inr s ↦ (let s0 = s.0 in let s1 = s.1 in
          omega arith)
    ]) in
    let diff : (i j : ℕ) → i < j → j ≤ m → swapped m v f i ≢ swapped m v f j = (λ i j l k e.
    let q : f i ≢ f j = apart i j l (omega arith) in
    let qi : f i ≢ f (suc m) = apart i (suc m) (omega arith) (omega arith) in
    let qj : f j ≢ f (suc m) = apart j (suc m) (omega arith) (omega arith) in
    elim (swapped_is m v f i) [
      | inl s ↦ (let s0 = s.0 in let s1 = s.1 in elim (swapped_is m v f j) [
        | inl t ↦ (let t0 = t.0 in let t1 = t.1 in omega arith)
        | inr t ↦
            (let t0 = t.0 in let t1 = t.1 in omega arith)
      ])
      | inr s ↦ (let s0 = s.0 in let s1 = s.1 in elim (swapped_is m v f j) [
        | inl t ↦ (let t0 = t.0 in let t1 = t.1 in omega arith)
        | inr t ↦
            (let t0 = t.0 in let t1 = t.1 in omega arith)
      ])
    ]) in
    no_room m (swapped m v f) small diff
