-- Blocks that are cut after a size hold the same up to it (cut_is); blocks that are followed by a
-- row, and bytes by its bytes, hold both (followed_kept, followed_below, followed_filled).
use Rattle.std.proofs.Common.{◌≡◌, ◌≢◌, ◌∙◌, sym, ap, ℕ, zero, suc, ◌+◌, ◌-◌, ◌*◌, ◌/◌, ◌%◌, ◌<◌, ◌≤◌, ◌⊎◌, inl, inr, List, [], ◌∷◌, ◌++◌, length, take, get_or, refl, arith, length-take-le, length-append}
use Rattle.std.proofs.lemmas.Bool.{cases_lt, cases_eq}
use Rattle.std.proofs.lemmas.List.{get_or-take, get_or_append_left, get_or_at, ext_get_or}
use Rattle.romfs_held.specs.Blocks.{byte_of, filled, IsKept, IsRank, AreBelow, IsCut, HasNumbers, IsPadded, IsFollowed}
use Rattle.romfs_held.proofs.Runs.{byte_kept, byte_none}
use Rattle.romfs_held.proofs.Fronts.{filled_at, filled_long}

-- a number is among the blocks, or it is not
pub find_block : (blocks : List ℕ) (q : ℕ)
    → ((i : ℕ) × (i < length blocks) × (get_or blocks i 0 ≡ q)) ⊎ ((i : ℕ) → i < length blocks → get_or blocks i 0 ≢ q)
find_block [] q = inr (λ i l e. absurd (omega arith))
find_block (b ∷ blocks) q = elim (cases_eq b q) [
  | inl e ↦ inl (0, (let l : 0 < length (b ∷ blocks) = omega arith in l), e)
  | inr n ↦ elim (find_block blocks q) [
    | inl x ↦ inl (suc x.0, (let m = x.1 in let l : suc x.0 < length (b ∷ blocks) = omega arith in l), x.2)
    | inr f ↦ inr (none b blocks q n f)
  ]
]
  where
    none : (b : ℕ) (blocks : List ℕ) (q : ℕ) → b ≢ q → ((i : ℕ) → i < length blocks → get_or blocks i 0 ≢ q)
        → (i : ℕ) → i < length (b ∷ blocks) → get_or (b ∷ blocks) i 0 ≢ q
    none b blocks q n f zero l e = n e
    none b blocks q n f (suc i) l e = f i (omega arith) e

-- the first blocks and their bytes
module _ (blocks bytes : List ℕ) (kept : IsKept blocks bytes) (end count : ℕ) (rank : IsRank blocks end count) where
  front_blocks : List ℕ
  front_blocks = take count blocks

  front_bytes : List ℕ
  front_bytes = take (count * 16) bytes

  blocks_long : length front_blocks ≡ count
  unfolding front_blocks
  blocks_long = length-take-le count blocks rank.within

  bytes_long : length front_bytes ≡ 16 * count
  unfolding front_bytes
  bytes_long = (let k = kept.long in let w = rank.within in let t = length-take-le (count * 16) bytes (omega arith) in omega arith)

  block_at : (i : ℕ) → i < count → get_or front_blocks i 0 ≡ get_or blocks i 0
  unfolding front_blocks
  block_at i l = get_or-take count blocks i 0 l

  front_kept : IsKept front_blocks front_bytes
  front_kept = record {
    rises = record {
      above = λ i j l m.
          (let z = blocks_long in let w = rank.within in let a = kept.rises.above i j l (omega arith) in
          let e = block_at i (omega arith) in let f = block_at j (omega arith) in omega arith);
    };
    long = (let z = blocks_long in let y = bytes_long in omega arith);
  }

  cut_kept : IsKept (take count blocks) (take (count * 16) bytes)
  unfolding front_blocks front_bytes
  cut_kept = front_kept

  cut_below : (size : ℕ) → end ≡ (size + 15) / 16 → AreBelow size (take count blocks)
  unfolding front_blocks
  cut_below size e = record {
    each = λ i l.
        (let z = blocks_long in let f = block_at i (omega arith) in let b = rank.below i (omega arith) in omega arith);
  }

  byte_at : (i j : ℕ) → i < count → j < 16 → get_or front_bytes (16 * i + j) 0 ≡ get_or bytes (16 * i + j) 0
  unfolding front_bytes
  byte_at i j l m = get_or-take (count * 16) bytes (16 * i + j) 0 (omega arith)

  same_byte : (p : ℕ) → p / 16 < end → byte_of front_blocks front_bytes p ≡ byte_of blocks bytes p
  same_byte p l = elim (find_block blocks (p / 16)) [
    | inl x ↦ (let x1 = x.1 in let x2 = x.2 in elim (cases_lt x.0 count) [
      | inl m ↦ (let z = blocks_long in
          byte_kept front_blocks front_bytes p x.0 front_kept.rises (omega arith) (block_at x.0 m ∙ x.2)
          ∙ byte_at x.0 (p % 16) m (omega arith)
          ∙ sym (byte_kept blocks bytes p x.0 kept.rises x.1 x.2))
      | inr m ↦ absurd (let a = rank.above x.0 m x.1 in omega arith)
    ])
    | inr n ↦ byte_none front_blocks front_bytes p (λ i m e.
        (let z = blocks_long in let w = rank.within in n i (omega arith) (sym (block_at i (omega arith)) ∙ e)))
        ∙ sym (byte_none blocks bytes p n)
  ]

  cut_filled : (size : ℕ) → end ≡ (size + 15) / 16
      → filled size (take count blocks) (take (count * 16) bytes) ≡ filled size blocks bytes
  unfolding front_blocks front_bytes
  cut_filled size e =
      let x = filled_long size front_blocks front_bytes in
      let y = filled_long size blocks bytes in
      ext_get_or 0 (filled size front_blocks front_bytes) (filled size blocks bytes) (omega arith) (λ p l.
      filled_at size front_blocks front_bytes p (omega arith) ∙ same_byte p (omega arith)
      ∙ sym (filled_at size blocks bytes p (omega arith)))

  pub cut_is : (size : ℕ) → end ≡ (size + 15) / 16 → IsCut size blocks bytes (take count blocks) (take (count * 16) bytes)
  cut_is size e = record { kept = cut_kept; below = cut_below size e; same = cut_filled size e }

-- no number, and one more
pub row_none : (old : List ℕ) (first : ℕ) → HasNumbers old first 0 old
row_none old first = record { long = omega arith; front = λ i l. refl; row = λ i l. absurd (omega arith) }

pub row_more : (old mid new : List ℕ) (first count : ℕ) → HasNumbers old first count mid → new ≡ mid ++ (first + count) ∷ []
    → HasNumbers old first (count + 1) new
row_more old mid new first count r e = record {
  long = (let l = r.long in let a = ap length e in let b = length-append mid ((first + count) ∷ []) in omega arith);
  front = λ i l. ap (λ xs. get_or xs i 0) e
      ∙ get_or_append_left mid ((first + count) ∷ []) 0 i (let m = r.long in omega arith) ∙ r.front i l;
  row = λ i l. ap (λ xs. get_or xs (length old + i) 0) e ∙ elim (cases_lt i count) [
    | inl m ↦ get_or_append_left mid ((first + count) ∷ []) 0 (length old + i) (let k = r.long in omega arith) ∙ r.row i m
    | inr m ↦ get_or_at mid (first + count) [] 0 (length old + i) (let k = r.long in omega arith)
        ∙ (let g : first + count ≡ first + i = omega arith in g)
  ];
}

-- blocks below a place, and a row from there on with its bytes
module _ (blocks bytes tail all whole : List ℕ) (size at : ℕ) (kept : IsKept blocks bytes) (below : AreBelow size blocks)
    (behind : size ≤ at) (even : at % 16 ≡ 0) (row : HasNumbers blocks (at / 16) ((length tail + 15) / 16) all)
    (padded : IsPadded bytes tail whole) where
  place : (i : ℕ) → i < length all → (i < length blocks) ⊎ ((length blocks ≤ i) × (get_or all i 0 ≡ at / 16 + (i - length blocks)))
  place i l = elim (cases_lt i (length blocks)) [
    | inl m ↦ inl m
    | inr m ↦ inr (
      m,
      (let r = row.long in
          ap (λ k. get_or all k 0) (let e : i ≡ length blocks + (i - length blocks) = omega arith in e)
          ∙ row.row (i - length blocks) (omega arith)),
    )
  ]

  old_below : (i : ℕ) → i < length blocks → get_or all i 0 < at / 16
  old_below i l = (let f = row.front i l in let b = below.each i l in omega arith)

  rises : (i j : ℕ) → i < j → j < length all → get_or all i 0 < get_or all j 0
  rises i j l m = elim (place j m) [
    | inl x ↦ (let f = row.front i (omega arith) in let g = row.front j x in let a = kept.rises.above i j l x in omega arith)
    | inr y ↦ (let y0 = y.0 in let y1 = y.1 in elim (place i (omega arith)) [
      | inl x ↦ (let b = old_below i x in omega arith)
      | inr z ↦ (let z0 = z.0 in let z1 = z.1 in omega arith)
    ])
  ]

  pub followed_kept : IsKept all whole
  followed_kept = record {
    rises = record { above = rises };
    long = (let k = kept.long in let r = row.long in let p = padded.long in omega arith);
  }

  pub followed_below : AreBelow (at + length tail) all
  followed_below = record {
    each = λ i l. elim (place i l) [
      | inl x ↦ (let b = old_below i x in omega arith)
      | inr y ↦ (let y0 = y.0 in let y1 = y.1 in let r = row.long in omega arith)
    ];
  }

  front_byte : (p : ℕ) → p < at → byte_of all whole p ≡ byte_of blocks bytes p
  front_byte p l = elim (find_block blocks (p / 16)) [
    | inl x ↦ (let x1 = x.1 in let r = row.long in let k = kept.long in
        byte_kept all whole p x.0 followed_kept.rises (omega arith) (row.front x.0 x.1 ∙ x.2)
        ∙ padded.front (16 * x.0 + p % 16) (omega arith)
        ∙ sym (byte_kept blocks bytes p x.0 kept.rises x.1 x.2))
    | inr n ↦ byte_none all whole p (λ i m e. elim (place i m) [
      | inl x ↦ n i x (sym (row.front i x) ∙ e)
      | inr y ↦ (let y1 = y.1 in absurd (omega arith))
    ]) ∙ sym (byte_none blocks bytes p n)
  ]

  tail_byte : (i : ℕ) → i < length tail → byte_of all whole (at + i) ≡ get_or tail i 0
  tail_byte i l =
      let r = row.long in
      let k = kept.long in
      byte_kept all whole (at + i) (length blocks + i / 16) followed_kept.rises (omega arith)
      (row.row (i / 16) (omega arith) ∙ (let e : at / 16 + i / 16 ≡ (at + i) / 16 = omega arith in e))
      ∙ ap (λ n. get_or whole n 0) (let e : 16 * (length blocks + i / 16) + (at + i) % 16 ≡ length bytes + i = omega arith in e)
      ∙ padded.back i l

  pub followed_filled : IsFollowed (filled size blocks bytes) at tail (filled (at + length tail) all whole)
  followed_filled = record {
    long = filled_long (at + length tail) all whole;
    same = λ p l. (let f = filled_long size blocks bytes in
        filled_at (at + length tail) all whole p (omega arith) ∙ front_byte p (omega arith)
        ∙ sym (filled_at size blocks bytes p (omega arith)));
    back = λ i l. filled_at (at + length tail) all whole (at + i) (omega arith) ∙ tail_byte i l;
  }
