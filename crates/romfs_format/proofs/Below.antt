-- What a test of each number below another says of one of them (at_below), what one that fails says
-- of the test (fails_below), and the test of one number more (one_more).
use Rattle.std.proofs.Common.{◌≡◌, ℕ, zero, suc, ◌+◌, ◌<◌, inl, inr, arith, refl, add-one}
use Rattle.std.specs.Prelude.{Bool, true, false, ◌&&◌}
use Rattle.std.proofs.lemmas.Bool.{cases_order}
use Rattle.romfs_format.specs.Below.{holds_below}

and_first : (a b : Bool) → (a && b) ≡ true → a ≡ true
and_first true b e = refl
and_first false b e = absurd (cc)

and_second : (a b : Bool) → (a && b) ≡ true → b ≡ true
and_second true b e = e
and_second false b e = absurd (cc)

and_false : (a : Bool) → (a && false) ≡ false
and_false true = refl
and_false false = refl

-- if each passes, one does
pub at_below : (n : ℕ) (test : ℕ → Bool) (i : ℕ) → i < n → holds_below n test ≡ true → test i ≡ true
at_below zero test i l e = absurd (omega arith)
at_below (suc n) test i l e = elim (cases_order i n) [
  | inl s ↦ rw s (and_second (holds_below n test) (test n) e)
  | inr (inl m) ↦ at_below n test i m (and_first (holds_below n test) (test n) e)
  | inr (inr m) ↦ absurd (omega arith)
]

-- if one fails, not each passes
pub fails_below : (n : ℕ) (test : ℕ → Bool) (i : ℕ) → i < n → test i ≡ false → holds_below n test ≡ false
fails_below zero test i l e = absurd (omega arith)
fails_below (suc n) test i l e = elim (cases_order i n) [
  | inl s ↦ (let f : test n ≡ false = rw (← s) e in rw f (and_false (holds_below n test)))
  | inr (inl m) ↦ rw (fails_below n test i m e) refl
  | inr (inr m) ↦ absurd (omega arith)
]

-- if those below n pass and n does, those below n + 1 do
pub one_more : (n : ℕ) (test : ℕ → Bool) → holds_below n test ≡ true → test n ≡ true → holds_below (n + 1) test ≡ true
one_more n test e f = rw (add-one, e) f

-- tests that say the same of each number below n say the same of all
pub holds_alike : (n : ℕ) (p q : ℕ → Bool) → ((i : ℕ) → i < n → p i ≡ q i) → holds_below n p ≡ holds_below n q
holds_alike zero p q h = refl
holds_alike (suc n) p q h =
    let e = holds_alike n p q (λ i l. h i (omega arith)) in
    let f = h n (omega arith) in
    rw (e, f) refl
