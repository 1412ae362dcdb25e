-- The bytes of blocks: of one that is kept (byte_kept), of none (byte_none), and of a row of them
-- (run_is). Blocks as far apart as their numbers are a row (dense_row), and a block at a position
-- has that rank (rank_here); block_is is the rest of one.
use Rattle.std.proofs.Common.{◌≡◌, ◌≢◌, ◌∙◌, sym, ap, ℕ, zero, suc, ◌+◌, ◌-◌, ◌*◌, ◌/◌, ◌%◌, ◌-◌, ◌<◌, ◌≤◌, ◌==◌, inl, inr, if◌then◌else◌, List, [], ◌∷◌, length, take, drop, get_or, refl, arith, length-drop, length-take-le}
use Rattle.std.proofs.lemmas.List.{get_or-drop, get_or-take}
use Rattle.std.proofs.lemmas.Bool.{cases_lt}
use Rattle.std.proofs.lemmas.Bool.Decides.{nat_tests}
use Rattle.romfs_held.specs.Blocks.{byte_of, Rises, IsKept, IsRank, AreInRow, IsRun}

here_then : (b q x y : ℕ) → b ≡ q → (if b == q then x else y) ≡ x
here_then b q x y e = grind (arith, nat_tests)

here_else : (b q x y : ℕ) → b ≢ q → (if b == q then x else y) ≡ y
here_else b q x y e = grind (arith, nat_tests)

rises_tail : (b : ℕ) (blocks : List ℕ) → Rises (b ∷ blocks) → Rises blocks
rises_tail b blocks r = record { above = λ i j l m. r.above (suc i) (suc j) (omega arith) (omega arith) }

pub byte_kept : (blocks bytes : List ℕ) (p k : ℕ) → Rises blocks → k < length blocks → get_or blocks k 0 ≡ p / 16
    → byte_of blocks bytes p ≡ get_or bytes (16 * k + p % 16) 0
unfolding byte_of
byte_kept [] bytes p k r l e = absurd (omega arith)
byte_kept (b ∷ blocks) bytes p zero r l e =
    here_then b (p / 16) _ _ e ∙ ap (λ i. get_or bytes i 0) (let g : p % 16 ≡ 16 * 0 + p % 16 = omega arith in g)
byte_kept (b ∷ blocks) bytes p (suc k) r l e =
    let low : b < get_or blocks k 0 = r.above 0 (suc k) (omega arith) l in
    here_else b (p / 16) _ _ (λ f. absurd (omega arith))
    ∙ byte_kept blocks (drop 16 bytes) p k (rises_tail b blocks r) (omega arith) e
    ∙ get_or-drop 16 bytes (16 * k + p % 16) 0
    ∙ ap (λ i. get_or bytes i 0) (let g : 16 + (16 * k + p % 16) ≡ 16 * suc k + p % 16 = omega arith in g)

pub byte_none : (blocks bytes : List ℕ) (p : ℕ) → ((i : ℕ) → i < length blocks → get_or blocks i 0 ≢ p / 16)
    → byte_of blocks bytes p ≡ 0
unfolding byte_of
byte_none [] bytes p h = refl
byte_none (b ∷ blocks) bytes p h =
    here_else b (p / 16) _ _ (h 0 (omega arith))
    ∙ byte_none blocks (drop 16 bytes) p (λ i l. h (suc i) (omega arith))

-- numbers rise by one at least
gap : (blocks : List ℕ) → Rises blocks → (i n : ℕ) → i + n < length blocks → get_or blocks i 0 + n ≤ get_or blocks (i + n) 0
gap blocks r i zero l = (let e = ap (λ x. get_or blocks x 0) (let e : i + 0 ≡ i = omega arith in e) in omega arith)
gap blocks r i (suc n) l =
    let g = gap blocks r i n (omega arith) in
    let a = r.above (i + n) (i + suc n) (omega arith) l in
    omega arith

-- a block at this position has a rank as great
pub rank_here : (blocks : List ℕ) → Rises blocks → (block at : ℕ) → at < length blocks → get_or blocks at 0 ≡ block
    → IsRank blocks block at
rank_here blocks r block at l e = record {
  within = omega arith;
  below = λ i m. let a = r.above i at m l in omega arith;
  above = λ i m n. let a = gap blocks r at (i - at) (omega arith) in
      let f = ap (λ x. get_or blocks x 0) (let g : at + (i - at) ≡ i = omega arith in g) in omega arith;
}

-- so those between two that are as far apart as their numbers have all numbers between
between : (blocks : List ℕ) → Rises blocks → (at block n : ℕ) → at + n < length blocks → get_or blocks at 0 ≡ block
    → get_or blocks (at + n) 0 ≡ block + n → (i : ℕ) → i ≤ n → get_or blocks (at + i) 0 ≡ block + i
between blocks r at block n l e f i m =
    let low = gap blocks r at i (omega arith) in
    let high = gap blocks r (at + i) (n - i) (omega arith) in
    let g = ap (λ x. get_or blocks x 0) (let e : at + i + (n - i) ≡ at + n = omega arith in e) in
    omega arith

pub dense_row : (blocks : List ℕ) → Rises blocks → (at block n : ℕ) → at + n < length blocks → get_or blocks at 0 ≡ block
    → get_or blocks (at + n) 0 ≡ block + n → 17 ≤ n → AreInRow blocks at block (n + 1)
dense_row blocks r at block n l e f long = record {
  some = omega arith;
  within = omega arith;
  rise = λ i m. between blocks r at block n l e f i (omega arith);
  stops = λ few. absurd (omega arith);
}

-- where a byte of a row lies
row_place : (at i : ℕ) → (at + i) / 16 ≡ at / 16 + (at % 16 + i) / 16
row_place at i = omega arith

row_rest : (at i : ℕ) → (at + i) % 16 ≡ (at % 16 + i) % 16
row_rest at i = omega arith

module _ (blocks bytes : List ℕ) (kept : IsKept blocks bytes) (at : ℕ) where
  -- no block below the rank or from it on is that of a place
  pub no_run : (rank : ℕ) → IsRank blocks (at / 16) rank → (rank < length blocks → get_or blocks rank 0 ≢ at / 16)
      → IsRun blocks bytes at []
  no_run rank r n = record {
    is = λ i l. absurd (omega arith);
    stops = λ l. ap (byte_of blocks bytes) (let e : at + 0 ≡ at = omega arith in e) ∙ byte_none blocks bytes at none;
  }
    where
      none : (i : ℕ) → i < length blocks → get_or blocks i 0 ≢ at / 16
      none i l e = elim (cases_lt i rank) [
        | inl m ↦ (let b = r.below i m in omega arith)
        | inr m ↦ elim (cases_lt rank i) [
          | inl q ↦ (let a = r.above rank (omega arith) (omega arith) in let b = kept.rises.above rank i q l in omega arith)
          | inr q ↦ (let j : i ≡ rank = omega arith in n (omega arith) (ap (λ x. get_or blocks x 0) (sym j) ∙ e))
        ]
      ]

  -- the byte of a block that is not kept, and of one that is
  pub byte_zero : (rank : ℕ) → IsRank blocks (at / 16) rank → (rank < length blocks → get_or blocks rank 0 ≢ at / 16)
      → byte_of blocks bytes at ≡ 0
  byte_zero rank r n =
      ap (byte_of blocks bytes) (let e : at ≡ at + 0 = omega arith in e) ∙ (no_run rank r n).stops (omega arith)

  pub byte_here : (k : ℕ) → k < length blocks → get_or blocks k 0 ≡ at / 16
      → byte_of blocks bytes at ≡ get_or bytes (k * 16 + at % 16) 0
  byte_here k l e =
      byte_kept blocks bytes at k kept.rises l e
      ∙ ap (λ i. get_or bytes i 0) (let g : 16 * k + at % 16 ≡ k * 16 + at % 16 = omega arith in g)

  -- what is left of a block at a position
  pub block_is : (k n : ℕ) → k < length blocks → get_or blocks k 0 ≡ at / 16 → n ≡ 16 - at % 16 → (i : ℕ)
      → i < length (take n (drop (k * 16 + at % 16) bytes))
      → byte_of blocks bytes (at + i) ≡ get_or (take n (drop (k * 16 + at % 16) bytes)) i 0
  block_is k n l e is_n i m =
      let b = kept.long in
      let d = length-drop (k * 16 + at % 16) bytes in
      let long = length-take-le n (drop (k * 16 + at % 16) bytes) (omega arith) in
      byte_kept blocks bytes (at + i) k kept.rises l (e ∙ (let g : at / 16 ≡ (at + i) / 16 = omega arith in g))
      ∙ ap (λ x. get_or bytes x 0) (let g : 16 * k + (at + i) % 16 ≡ k * 16 + at % 16 + i = omega arith in g)
      ∙ sym (get_or-drop (k * 16 + at % 16) bytes i 0)
      ∙ sym (get_or-take n (drop (k * 16 + at % 16) bytes) i 0 (omega arith))

  module _ (k count n : ℕ) (row : AreInRow blocks k (at / 16) count) (is_n : n ≡ 16 * count - at % 16) where
    long : length (take n (drop (k * 16 + at % 16) bytes)) ≡ n
    long =
        let a = row.within in
        let b = kept.long in
        let d = length-drop (k * 16 + at % 16) bytes in
        length-take-le n (drop (k * 16 + at % 16) bytes) (omega arith)

    in_row : (i : ℕ) → i < n → byte_of blocks bytes (at + i) ≡ get_or (take n (drop (k * 16 + at % 16) bytes)) i 0
    in_row i l =
        let j : (at % 16 + i) / 16 < count = omega arith in
        let w = row.within in
        byte_kept blocks bytes (at + i) (k + (at % 16 + i) / 16) kept.rises (omega arith)
        (row.rise ((at % 16 + i) / 16) j ∙ sym (row_place at i))
        ∙ ap (λ x. get_or bytes x 0)
        (let e : 16 * (k + (at % 16 + i) / 16) + (at + i) % 16 ≡ k * 16 + at % 16 + i = omega (arith, row_rest at i) in e)
        ∙ sym (get_or-drop (k * 16 + at % 16) bytes i 0)
        ∙ sym (get_or-take n (drop (k * 16 + at % 16) bytes) i 0 l)

    none_behind : count < 18 → (i : ℕ) → i < length blocks → get_or blocks i 0 ≢ at / 16 + count
    none_behind few i l e =
        let last = row.rise (count - 1) (let s = row.some in omega arith) in
        let w = row.within in
        let s = row.some in
        elim (cases_lt (k + (count - 1)) i) [
          | inl m ↦ elim (cases_lt (k + count) i) [
            | inl q ↦ (let a = kept.rises.above (k + (count - 1)) (k + count) (omega arith) (omega arith) in
                let b = kept.rises.above (k + count) i q l in
                omega (arith, row.stops few (omega arith)))
            | inr q ↦ (let j : i ≡ k + count = omega arith in
                row.stops few (omega arith) (ap (λ x. get_or blocks x 0) (sym j) ∙ e))
          ]
          | inr m ↦ elim (cases_lt i (k + (count - 1))) [
            | inl q ↦ (let a = kept.rises.above i (k + (count - 1)) q (omega arith) in omega arith)
            | inr q ↦ (let j : i ≡ k + (count - 1) = omega arith in
                let f = ap (λ x. get_or blocks x 0) j in omega arith)
          ]
        ]

    behind : n < 272 → byte_of blocks bytes (at + n) ≡ 0
    behind l =
        let s = row.some in
        byte_none blocks bytes (at + n) (λ i m e. none_behind (omega arith) i m
        (e ∙ (let f : (at + n) / 16 ≡ at / 16 + count = omega arith in f)))

    -- the blocks in a row are a run
    pub run_is : IsRun blocks bytes at (take n (drop (k * 16 + at % 16) bytes))
    run_is = record {
      is = λ i l. in_row i (let e = long in omega arith);
      stops = λ l. ap (λ x. byte_of blocks bytes (at + x)) long ∙ behind (let e = long in omega arith);
    }
