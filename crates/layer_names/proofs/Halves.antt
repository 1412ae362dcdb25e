-- Searches among keys that do not fall. `from_both` is the main lemma: one search for the first key not below, and one for the first above,
-- find the range of equal keys. `borrowed` is one of their steps, without a branch.
use Rattle.std.proofs.Common.{◌≡◌, ℕ, ◌+◌, ◌-◌, ◌/◌, ◌%◌, ◌^◌, ◌<◌, ◌≤◌, inl, inr, List, length, arith, true, false, cond, ltb, leb, leb-true}
use Rattle.std.specs.List.{AllWithin}
use Rattle.std.specs.Int.Bits.{bit_and, and_mask}
use Rattle.std.proofs.Math.Nat.{mod-eq_of_lt}
use Rattle.std.proofs.lemmas.Bool.{cases_lt, leb-false, lt-ltb, le-ltb}
use Rattle.layer_names.specs.Runs.{IsKeyRun}

-- the borrow of a difference, as a mask
pub borrowed : (x y n : ℕ) → x < 2 ^ 64 → y < 2 ^ 64 → n < 2 ^ 64 → bit_and n ((x + (2 ^ 128 - y)) % 2 ^ 128 / 2 ^ 64) ≡ cond (ltb x y) n 0
borrowed x y n a b c = elim (cases_lt x y) [
  | inl l ↦
      let e : (x + (2 ^ 128 - y)) % 2 ^ 128 / 2 ^ 64 ≡ 2 ^ 64 - 1 = omega arith in
      rw (lt-ltb x y l, e, and_mask n 64) (mod-eq_of_lt c)
  | inr l ↦
      let e : (x + (2 ^ 128 - y)) % 2 ^ 128 / 2 ^ 64 ≡ 2 ^ 0 - 1 = omega arith in
      rw (le-ltb x y l, e, and_mask n 0) (omega arith)
]

module _ (keys : List ℕ) (key : ℕ) where
  -- how far a search for the first key that is not below has come
  pub record Closes (base size : ℕ) : Type 0 where
    pub within : base + size ≤ length keys
    pub one : 0 < length keys → 0 < size
    pub before : AllWithin (λ at. at < key) keys 0 base
    pub after : AllWithin (λ at. key ≤ at) keys (base + size) (length keys)

  -- the first key not below and the first above bound the range of equal keys
  pub from_both : (low high : ℕ) → low ≤ length keys → high ≤ length keys
      → AllWithin (λ y. y < key) keys 0 low → AllWithin (λ y. key ≤ y) keys low (length keys) →
      AllWithin (λ y. leb y key ≡ true) keys 0 high → AllWithin (λ y. leb y key ≡ false) keys high (length keys)
      → IsKeyRun keys key low high
  from_both low high l h p from to q = record {
    within_low = l;
    within_high = h;
    before = λ k d z m e. let b = p k d z m in omega arith;
    after = λ k d m s e. let b = leb-false _ _ (q k d m s) in omega arith;
    same = λ k d m s. let b = from k d m (omega arith) in let e = leb-true _ _ (to k d (omega arith) s) in omega arith;
  }
