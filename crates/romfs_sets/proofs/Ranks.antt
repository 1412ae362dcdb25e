-- How many slots of a set are before a slot: its rank. It grows by one with each slot of the set,
-- so these have different ranks (`rank_once`); within a word the rank grows by the lower bits
-- (`counted`), so counts by word give every rank (`counts_more`).
use lib.Count.{ones_step}
use lib.Arith.{mod-mul}
use lib.Pow.{pow_pos}
use Rattle.std.proofs.Common.{◌≡◌, ◌∙◌, sym, ap, ℕ, zero, suc, ◌+◌, ◌-◌, ◌*◌, ◌/◌, ◌%◌, ◌^◌, ◌<◌, ◌≤◌, ◌==◌, inl, inr, List, [], ◌∷◌, ◌++◌, length, Bool, true, false, cond, get_or, count_ones, refl, arith}
use Rattle.std.specs.Int.{bit_at}
use Rattle.std.proofs.lemmas.Nat.Bits.{bit_at_lowest, bit_at-suc, bit_at-lt}
use Rattle.std.proofs.Math.Nat.{pow-suc, mod-one}
use Rattle.std.proofs.lemmas.Nat.{ones_le_self}
use Rattle.std.proofs.lemmas.Bool.{cases_lt, cases_eq}
use Rattle.std.proofs.lemmas.List.{get_or_at, get_or_append_left, length_push}
use Rattle.romfs_sets.specs.Sets.{is_bit, bits, rank}
use Rattle.romfs_sets.proofs.Bits.{bits_at}

-- no slot of the set is before slot 0
pub rank_zero : (set : List Bool) → rank set 0 ≡ 0
unfolding rank
rank_zero set = refl

one_more : (set : List Bool) (n : ℕ) → rank set (n + 1) ≡ rank set n + cond (get_or set n false) 1 0
unfolding rank
one_more set n = ap (rank set) (let e : n + 1 ≡ suc n = omega arith in e)

-- a slot of the set adds one to those before the next slot
pub rank_member : (set : List Bool) (n : ℕ) → get_or set n false ≡ true → rank set (n + 1) ≡ rank set n + 1
rank_member set n e = one_more set n ∙ ap (λ b. rank set n + cond b 1 0) e

-- a slot that is not in the set adds none to those before the next slot
pub rank_other : (set : List Bool) (n : ℕ) → get_or set n false ≡ false → rank set (n + 1) ≡ rank set n
rank_other set n e = let s = one_more set n ∙ ap (λ b. rank set n + cond b 1 0) e in omega arith

rank_step : (set : List Bool) (n : ℕ) → (rank set n ≤ rank set (n + 1)) × (rank set (n + 1) ≤ rank set n + 1)
rank_step set n = go (get_or set n false) refl
  where
    go : (b : Bool) → get_or set n false ≡ b → (rank set n ≤ rank set (n + 1)) × (rank set (n + 1) ≤ rank set n + 1)
    go true e = let r = rank_member set n e in (omega arith, omega arith)
    go false e = let r = rank_other set n e in (omega arith, omega arith)

-- as many of the set, or more, are before a slot that is `more` further on
pub rank_rises : (set : List Bool) (n more : ℕ) → rank set n ≤ rank set (n + more)
rank_rises set n zero = let e : rank set (n + 0) ≡ rank set n = ap (rank set) (let z : n + 0 ≡ n = omega arith in z) in omega arith
rank_rises set n (suc more) =
    let e : rank set (n + suc more) ≡ rank set (n + more + 1) = ap (rank set) (let z : n + suc more ≡ n + more + 1 = omega arith in z) in
    let r = rank_rises set n more in
    let s = (rank_step set (n + more)).0 in
    omega arith

-- as many of the set, or more, are before a later slot
pub rank_up : (set : List Bool) (m n : ℕ) → m ≤ n → rank set m ≤ rank set n
rank_up set m n l = let e : rank set (m + (n - m)) ≡ rank set n = ap (rank set)
    (let z : m + (n - m) ≡ n = omega arith in z) in let r = rank_rises set m (n - m) in omega arith

-- no more of the set are before a slot than there are slots before it
pub rank_few : (set : List Bool) (n : ℕ) → rank set n ≤ n
rank_few set zero = let z = rank_zero set in omega arith
rank_few set (suc n) =
    let e : rank set (suc n) ≡ rank set (n + 1) = ap (rank set) (let z : suc n ≡ n + 1 = omega arith in z) in
    let r = rank_few set n in
    let s = (rank_step set n).1 in
    omega arith

-- a slot of the set has a number below those of the slots after it
pub rank_below : (set : List Bool) (k n : ℕ) → get_or set k false ≡ true → k < n → rank set k < rank set n
rank_below set k n m l = let r = rank_member set k m in let u = rank_up set (k + 1) n (omega arith) in omega arith

-- slots of the set with the same number are the same
pub rank_once : (set : List Bool) (j k : ℕ) → get_or set j false ≡ true → get_or set k false ≡ true → rank set j ≡ rank set k → j ≡ k
rank_once set j k m n e = elim (cases_eq j k) [
  | inl q ↦ q
  | inr q ↦ elim (cases_lt j k) [
    | inl l ↦ (let r = rank_below set j k m l in absurd (omega arith))
    | inr l ↦ (let r = rank_below set k j n (omega arith) in absurd (omega arith))
  ]
]

-- how many of the lowest i bits of a word are set
low_ones : ℕ → ℕ → ℕ
low_ones word zero = 0
low_ones word (suc i) = word % 2 + low_ones (word / 2) i

low_ones_more : (word i : ℕ) → low_ones word (suc i) ≡ low_ones word i + bit_at word i
unfolding low_ones
low_ones_more word zero = let b = bit_at_lowest word in omega arith
low_ones_more word (suc i) =
    let r = low_ones_more (word / 2) i in
    let b = bit_at-suc word i in
    omega arith

count_low : (i word : ℕ) → count_ones (word % 2 ^ i) ≡ low_ones word i
unfolding low_ones
count_low zero word = let z : word % 2 ^ 0 ≡ 0 = mod-one word in ap count_ones z ∙ ones_none
  where
    ones_none : count_ones 0 ≡ 0
    ones_none = let l = ones_le_self 0 in omega arith
count_low (suc i) word =
    let p : 2 ^ suc i ≡ 2 ^ i * 2 = pow-suc 2 i in
    let m : word % 2 ^ suc i ≡ (word / 2 % 2 ^ i) * 2 + word % 2 = ap (λ x. word % x) p ∙ mod-mul word (pow_pos i) (lit_two) in
    let s = ones_step (word % 2 ^ suc i) in
    let low : word % 2 ^ suc i % 2 ≡ word % 2 = omega arith in
    let high : word % 2 ^ suc i / 2 ≡ word / 2 % 2 ^ i = omega arith in
    s ∙ ap (λ x. x + count_ones (word % 2 ^ suc i / 2)) low ∙ ap (λ x. word % 2 + count_ones x) high
    ∙ ap (λ x. word % 2 + x) (count_low i (word / 2))
  where
    lit_two : 0 < 2
    lit_two = omega arith

-- of a word of the set, the lowest bits count its slots
module _ (n : ℕ) (words : List ℕ) (word w : ℕ) (e : w ≡ get_or words word 0) where
  bit_here : (i : ℕ) → i < 64 → is_bit words (word * 64 + i) ≡ (bit_at w i == 1)
  bit_here i l =
      let q : (word * 64 + i) / 64 ≡ word = omega arith in
      let r : (word * 64 + i) % 64 ≡ i = omega arith in
      ap (λ x. bit_at (get_or words x 0) ((word * 64 + i) % 64) == 1) q ∙ ap (λ x. bit_at (get_or words word 0) x == 1) r
      ∙ ap (λ x. bit_at x i == 1) (sym e)

  ranked : (i : ℕ) → i ≤ 64 → word * 64 + i ≤ n → rank (bits n words) (word * 64 + i) ≡ rank (bits n words) (word * 64) + low_ones w i
  unfolding low_ones
  ranked zero l m = let z : word * 64 + 0 ≡ word * 64 = omega arith in let a = ap (rank (bits n words)) z in omega arith
  ranked (suc i) l m =
      let r = ranked i (omega arith) (omega arith) in
      let z : word * 64 + suc i ≡ word * 64 + i + 1 = omega arith in
      let a = ap (rank (bits n words)) z in
      let b = bits_at n words (word * 64 + i) (omega arith) ∙ bit_here i (omega arith) in
      let o = low_ones_more w i in
      let t = bit_at-lt w i in
      elim (cases_eq (bit_at w i) 1) [
        | inl q ↦ (let s = rank_member (bits n words) (word * 64 + i) (b ∙ ap (λ x. x == 1) q) in omega arith)
        | inr q ↦ (let y : bit_at w i ≡ 0 = omega arith in let s = rank_other (bits n words) (word * 64 + i) (b ∙ ap (λ x. x == 1) y) in
            omega arith)
      ]

  -- before a slot of a word are those before the word, and as many as lower bits are set
  pub counted : (i : ℕ) → i ≤ 64 → word * 64 + i ≤ n → rank (bits n words) (word * 64 + i) ≡ rank (bits n words) (word * 64)
      + count_ones (w % 2 ^ i)
  counted i l m = let r = ranked i l m in let c = count_low i w in omega arith

-- for each of the first words, how many of the set are before it
pub record AreCountsSoFar (set : List Bool) (before : List ℕ) : Type 0 where
  pub each : (w : ℕ) → w < length before → get_or before w 0 ≡ rank set (w * 64)

-- a list of no counts is right
pub no_counts : (set : List Bool) → AreCountsSoFar set []
no_counts set = record { each = λ w l. absurd (omega arith) }

-- right counts stay so with that of the next word at their end
pub counts_more : (set : List Bool) (before : List ℕ) (count : ℕ) → count ≡ rank set (length before * 64)
    → AreCountsSoFar set before → AreCountsSoFar set (before ++ count ∷ [])
counts_more set before count e c = record {
  each = λ w l. let s = length_push before count in elim (cases_eq w (length before)) [
    | inl q ↦ rw q (get_or_at before count [] 0 (length before) refl ∙ e)
    | inr q ↦ (let m : w < length before = omega arith in get_or_append_left before (count ∷ []) 0 w m ∙ c.each w m)
  ];
}
