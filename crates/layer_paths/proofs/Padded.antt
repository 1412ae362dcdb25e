-- The zeros after a short name are those of an array of zeros that the name does not cover.
use Rattle.std.proofs.Common.{◌≡◌, ℕ, zero, suc, ◌+◌, ◌-◌, ◌≤◌, drop, ap, arith}
use Rattle.std.specs.Prelude.{replicate}

zeros_behind : (n m k : ℕ) → k + n ≡ m → drop {A = ℕ} n (replicate m 0) ≡ replicate k 0
zeros_behind zero m k e = let same : m ≡ k = omega arith in ap (λ i. replicate i 0) same
zeros_behind (suc n) zero k e = absurd (omega arith)
zeros_behind (suc n) (suc m) k e = zeros_behind n m k (omega arith)

-- of 22 zeros those are left that a name of n bytes does not cover
pub zeros_left : (n : ℕ) → n ≤ 22 → drop {A = ℕ} n (replicate 22 0) ≡ replicate (22 - n) 0
zeros_left n le = zeros_behind n 22 (22 - n) (omega arith)
