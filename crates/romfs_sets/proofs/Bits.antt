-- What the words of a set of slots say of each slot: that a bit set in its word adds it
-- (`bits_set`); that the lowest bit left in a word is the next slot (`low_is`, `low_first`); and
-- that the words of two sets, bit by bit, are those of their union (`next_in`, `none_in`).
use Rattle.std.proofs.Common.{◌≡◌, ◌≢◌, ◌∙◌, sym, ap, subst, ℕ, zero, suc, max, map, ◌⊎◌, None, ◌+◌, ◌-◌, ◌*◌, ◌/◌, ◌%◌, ◌^◌, ◌<◌, ◌≤◌, ◌==◌, inl, inr, List, length, Bool, true, false, get_or, set, replicate, refl, arith, w64}
use Rattle.std.specs.Int.{bit_at, trailing_zeros}
use Rattle.std.specs.Int.RustNames.{bit_and, bit_or}
use Rattle.std.proofs.lemmas.Nat.Bits.{bit_at-zero, bit_at-lt, bit_at_set_same, bit_at_set_other, bit_at_and, bit_at_or, ones_shl, bit_at_mask_inside, bit_at_mask_below, bit_at-trailing_zeros}
use Rattle.std.proofs.lemmas.Nat.{and_le_r}
use Rattle.std.proofs.lemmas.Bool.{cases_eq, cases_lt}
use Rattle.std.proofs.lemmas.Grind.{get_or_default_zero}
use Rattle.std.proofs.lemmas.List.{get_or_default, length-set, get_or-set_same, get_or-set_other, same_lists, get_or-replicate, length-replicate}
use Rattle.std.proofs.lemmas.List.FromFn.{get_or-map-range_with_len, length-map-range_with_len}
use Rattle.std.specs.List.{range_with_len}
use Rattle.romfs_sets.specs.Sets.{is_bit, bits, IsClear, IsNextInEither, IsNextOfEither}

-- a set has a truth value for each slot
pub bits_length : (n : ℕ) (words : List ℕ) → length (bits n words) ≡ n
unfolding bits
bits_length n words = length-map-range_with_len (is_bit words) 0 n

-- a slot is in the set if its bit is set
pub bits_at : (n : ℕ) (words : List ℕ) (k : ℕ) → k < n → get_or (bits n words) k false ≡ is_bit words k
unfolding bits
bits_at n words k l = get_or-map-range_with_len (is_bit words) 0 n k k false l (omega arith)

-- each slot has its word, if the words have enough bits for all
pub is_bit_past : (words : List ℕ) (n : ℕ) → n ≤ length words * 64 → (k : ℕ) → k < n → k / 64 < length words
is_bit_past words n h k l = omega arith

-- a set of words is as long as it has slots
pub slots_of : (n : ℕ) (words : List ℕ) (set : List Bool) → bits n words ≡ set → length set ≡ n
slots_of n words set e = sym (ap length e) ∙ bits_length n words

-- what was read at a place where a word is, is that word
pub word_read : (words : List ℕ) (i w : ℕ) → i < length words → w ≡ get_or words i w → w ≡ get_or words i 0
word_read words i w l e = e ∙ get_or_default_zero words i w l

-- the word of a slot, as it was read
pub word_of_slot : (n : ℕ) (words : List ℕ) (held : List Bool) (slot w : ℕ) → bits n words ≡ held → n ≤ length words * 64
    → slot < length held → w ≡ get_or words (slot / 64) w → (slot < n) × (w ≡ get_or words (slot / 64) 0)
word_of_slot n words held slot w is enough within read =
    let same = slots_of n words held is in (omega arith, word_read words (slot / 64) w (omega arith) read)

-- words of zeros are the empty set
pub bits_none : (n m : ℕ) (words : List ℕ) → words ≡ replicate m 0 → n ≤ m * 64 → bits n words ≡ replicate n false
bits_none n m words e h = same_lists (bits n words) (replicate n false) (bits_length n words ∙ sym (length-replicate n false)) (λ k d l.
    let s : k < n = subst (λ x. k < x) (bits_length n words) l in
    let z : get_or words (k / 64) 0 ≡ 0 = rw e (get_or-replicate m (k / 64) 0 0 (omega arith)) in
    get_or_default (bits n words) k d false l ∙ bits_at n words k s ∙ (rw z (rw (bit_at-zero (k % 64)) refl))
    ∙ sym (get_or-replicate n k false d s))

zero_one : ¬ (◌≡◌ {A = ℕ} 0 1)
zero_one e = omega arith

-- one bit more
module _ (n : ℕ) (words : List ℕ) (slot w : ℕ) (h : n ≤ length words * 64) (l : slot < n) (e : w ≡ get_or words (slot / 64) 0) where
  with_bit : List ℕ
  with_bit = set words (slot / 64) (bit_or w (1 * 2 ^ (slot % 64) % 2 ^ 64))

  bit_same : is_bit with_bit slot ≡ true
  unfolding with_bit
  bit_same = rw (get_or-set_same words (slot / 64) (bit_or w (1 * 2 ^ (slot % 64) % 2 ^ 64)) 0 (omega arith))
      (rw (bit_at_set_same w64 w (slot % 64) (omega arith)) refl)

  bit_other : (k : ℕ) → k ≢ slot → is_bit with_bit k ≡ is_bit words k
  unfolding with_bit
  bit_other k q = elim (cases_eq (k / 64) (slot / 64)) [
    | inl f ↦ rw f (rw (get_or-set_same words (slot / 64) (bit_or w (1 * 2 ^ (slot % 64) % 2 ^ 64)) 0
        (omega arith)) (rw (bit_at_set_other w64 w (slot % 64) (omega arith) (k % 64) (λ r. q (omega arith)))
        (rw e refl)))
    | inr f ↦ rw (get_or-set_other words (slot / 64) (k / 64) (bit_or w (1 * 2 ^ (slot % 64) % 2 ^ 64)) 0 f) refl
  ]

  with_bit_at : (k : ℕ) (d : Bool) → k < n → is_bit with_bit k ≡ get_or (set (bits n words) slot true) k d
  with_bit_at k d s = elim (cases_eq k slot) [
    | inl q ↦ rw q (bit_same ∙ sym (get_or-set_same (bits n words) slot true d (rw (bits_length n words) l)))
    | inr q ↦ bit_other k q ∙ sym (bits_at n words k s)
        ∙ get_or_default (bits n words) k false d (rw (bits_length n words) s)
        ∙ sym (get_or-set_other (bits n words) slot k true d q)
  ]

  -- to set the bit of a slot in its word adds the slot to the set
  pub bits_set : bits n (set words (slot / 64) (bit_or w (1 * 2 ^ (slot % 64) % 2 ^ 64))) ≡ set (bits n words) slot true
  unfolding with_bit
  bits_set = same_lists (bits n with_bit) (set (bits n words) slot true)
      (bits_length n with_bit ∙ sym (length-set (bits n words) slot true ∙ bits_length n words)) (λ k d m.
      let s : k < n = subst (λ x. k < x) (bits_length n with_bit) m in
      get_or_default (bits n with_bit) k d false m ∙ bits_at n with_bit k s ∙ with_bit_at k d s)

-- what is left of the word of a slot without the slots before it
abbrev pub rest : ℕ → ℕ → ℕ
rest word slot = bit_and word ((2 ^ 64 - 1) * 2 ^ (slot % 64) % 2 ^ 64)

rest_fits : (word slot : ℕ) → rest word slot < 2 ^ 64
rest_fits word slot = let a = and_le_r word ((2 ^ 64 - 1) * 2 ^ (slot % 64) % 2 ^ 64) in omega arith

rest_below : (word slot i : ℕ) → i < slot % 64 → bit_at (rest word slot) i ≡ 0
rest_below word slot i l = rw (ones_shl 64 (slot % 64) (omega arith))
    (bit_at_and word (2 ^ 64 - 2 ^ (slot % 64)) i ∙ rw (bit_at_mask_below (slot % 64) 64 i l) (omega arith))

rest_from : (word slot i : ℕ) → slot % 64 ≤ i → i < 64 → bit_at (rest word slot) i ≡ bit_at word i
rest_from word slot i l m = rw (ones_shl 64 (slot % 64) (omega arith))
    (bit_at_and word (2 ^ 64 - 2 ^ (slot % 64)) i ∙ rw (bit_at_mask_inside (slot % 64) 64 i l m)
    (let b = bit_at-lt word i in omega arith))

module _ (words : List ℕ) (slot word : ℕ) (e : word ≡ get_or words (slot / 64) 0) where
  -- a slot of the same word, from this one on
  in_word : (k : ℕ) → slot ≤ k → k < (slot / 64 + 1) * 64 → is_bit words k ≡ (bit_at (rest word slot) (k % 64) == 1)
  in_word k l m =
      let q : k / 64 ≡ slot / 64 = omega arith in
      ap (λ x. bit_at (get_or words x 0) (k % 64) == 1) q ∙ ap (λ x. bit_at x (k % 64) == 1) (sym e)
      ∙ ap (λ x. x == 1) (sym (rest_from word slot (k % 64) (omega arith) (omega arith)))

  -- if nothing is left, no slot from this one up to the next word is in the set
  pub none_left : rest word slot ≡ 0 → (k : ℕ) → slot ≤ k → k < (slot / 64 + 1) * 64 → is_bit words k ≡ false
  none_left z k l m = in_word k l m ∙ ap (λ x. bit_at x (k % 64) == 1) z ∙ ap (λ x. x == 1) (bit_at-zero (k % 64))

  -- otherwise the lowest bit is the next slot
  module _ (some : 0 < rest word slot) where
    lowest : (trailing_zeros w64 (rest word slot) < 64)
        × (bit_at (rest word slot) (trailing_zeros w64 (rest word slot)) ≡ 1)
        × ((i : ℕ) → i < trailing_zeros w64 (rest word slot) → bit_at (rest word slot) i ≡ 0)
    lowest = bit_at-trailing_zeros w64 (rest word slot) some (rest_fits word slot)

    -- the lowest bit that is left is one of the word's, and not below the slot's
    pub low_from : (low : ℕ) → low ≡ trailing_zeros w64 (rest word slot) → (low < 64) × (slot % 64 ≤ low)
    low_from low f = (
      subst (λ x. x < 64) (sym f) lowest.0,
      elim (cases_lt low (slot % 64)) [
        | inl l ↦ (let z = rest_below word slot low l in let o = subst (λ x. bit_at (rest word slot) x ≡ 1) (sym f) lowest.1 in
            absurd (zero_one (sym z ∙ o)))
        | inr l ↦ l
      ],
    )

    -- the slot of the lowest bit that is left is in the set
    pub low_is : (low : ℕ) → low ≡ trailing_zeros w64 (rest word slot) → is_bit words (slot / 64 * 64 + low) ≡ true
    low_is low f =
        let a = low_from low f in
        let h = a.0 in
        let g = a.1 in
        let r : (slot / 64 * 64 + low) % 64 ≡ low = omega arith in
        in_word (slot / 64 * 64 + low) (omega arith) (omega arith) ∙ ap (λ x. bit_at (rest word slot) x == 1) (r ∙ f)
        ∙ ap (λ x. x == 1) lowest.1

    -- no slot from this one up to that of the lowest bit that is left is in the set
    pub low_first : (low : ℕ) → low ≡ trailing_zeros w64 (rest word slot) → (k : ℕ) → slot ≤ k → k < slot / 64 * 64 + low
        → is_bit words k ≡ false
    low_first low f k l m =
        let h = (low_from low f).0 in
        in_word k l (omega arith) ∙ ap (λ x. x == 1) (lowest.2 (k % 64) (subst (λ x. k % 64 < x) f (omega arith)))

-- if no slot up to `slot` is in the set, and none from there up to `high`, none up to `high` is
pub clear_more : (words : List ℕ) (from slot high : ℕ)
    → ((k : ℕ) → from ≤ k → k < slot → is_bit words k ≡ false)
    → ((k : ℕ) → slot ≤ k → k < high → is_bit words k ≡ false) → (k : ℕ) → from ≤ k → k < high
    → is_bit words k ≡ false
clear_more words from slot high c d k l m = elim (cases_lt k slot) [ inl x ↦ c k l x | inr x ↦ d k x m ]

-- the words of the union of two sets
unfoldable pub joined : ℕ → List ℕ → List ℕ → List ℕ
joined n one other = map (λ i. bit_or (get_or one i 0) (get_or other i 0)) (range_with_len 0 n)

either_bit : (a b : ℕ) → a < 2 → b < 2
    → ((max a b == 1) ≡ true → ((a == 1) ≡ true) ⊎ ((b == 1) ≡ true))
    × ((max a b == 1) ≡ false → ((a == 1) ≡ false) × ((b == 1) ≡ false))
either_bit zero zero l m = (λ e. inl e, λ e. (e, e))
either_bit zero (suc zero) l m = (λ e. inr e, λ e. cc)
either_bit (suc zero) zero l m = (λ e. inl e, λ e. cc)
either_bit (suc zero) (suc zero) l m = (λ e. inl e, λ e. (e, e))
either_bit (suc (suc a)) b l m = absurd (omega arith)
either_bit zero (suc (suc b)) l m = absurd (omega arith)
either_bit (suc zero) (suc (suc b)) l m = absurd (omega arith)

module _ (words : ℕ) (one other : List ℕ) where
  -- a word of the union has the bits of both words
  pub joined_at : (i : ℕ) → i < words → get_or (joined words one other) i 0 ≡ bit_or (get_or one i 0) (get_or other i 0)
  unfolding joined
  joined_at i l = get_or-map-range_with_len (λ j. bit_or (get_or one j 0) (get_or other j 0)) 0 words i i 0 l (omega arith)

  module _ (k : ℕ) (l : k / 64 < words) where
    bit_is : bit_at (get_or (joined words one other) (k / 64) 0) (k % 64)
        ≡ max (bit_at (get_or one (k / 64) 0) (k % 64)) (bit_at (get_or other (k / 64) 0) (k % 64))
    bit_is = ap (λ x. bit_at x (k % 64)) (joined_at (k / 64) l) ∙ bit_at_or (get_or one (k / 64) 0) (get_or other (k / 64) 0) (k % 64)

    cases : ((max (bit_at (get_or one (k / 64) 0) (k % 64)) (bit_at (get_or other (k / 64) 0) (k % 64)) == 1)
        ≡ true → (is_bit one k ≡ true) ⊎ (is_bit other k ≡ true))
        × ((max (bit_at (get_or one (k / 64) 0) (k % 64)) (bit_at (get_or other (k / 64) 0) (k % 64)) == 1)
        ≡ false → (is_bit one k ≡ false) × (is_bit other k ≡ false))
    cases = either_bit (bit_at (get_or one (k / 64) 0) (k % 64)) (bit_at (get_or other (k / 64) 0) (k % 64))
        (bit_at-lt (get_or one (k / 64) 0) (k % 64)) (bit_at-lt (get_or other (k / 64) 0) (k % 64))

    -- a slot of the union is in one of the sets
    pub in_either : is_bit (joined words one other) k ≡ true → (is_bit one k ≡ true) ⊎ (is_bit other k ≡ true)
    in_either e = cases.0 (ap (λ x. x == 1) (sym bit_is) ∙ e)

    -- a slot that is not in the union is in neither set
    pub in_neither : is_bit (joined words one other) k ≡ false → (is_bit one k ≡ false) × (is_bit other k ≡ false)
    in_neither e = cases.1 (ap (λ x. x == 1) (sym bit_is) ∙ e)

-- words of two sets, read at one place, are together the word of the union
pub joined_read : (one other : List ℕ) (i a b : ℕ) → i < length one → i < length other → a ≡ get_or one i a
    → b ≡ get_or other i b → bit_or a b ≡ get_or (joined (length one) one other) i 0
joined_read one other i a b l m e f = ap (λ x. bit_or x b) (word_read one i a l e)
    ∙ ap (λ x. bit_or (get_or one i 0) x) (word_read other i b m f)
    ∙ sym (joined_at (length one) one other i l)

-- of two sets that are as long as each other, the words of the other are over the slots of the one
pub same_slots : (n m : ℕ) (one other : List ℕ) (set others : List Bool) → bits n one ≡ set → bits m other ≡ others
    → length others ≡ length set → (m ≡ n) × (bits n other ≡ others)
same_slots n m one other set others e f l =
    let s : m ≡ n = sym (slots_of m other others f) ∙ l ∙ slots_of n one set e in
    (s, subst (λ x. bits x other ≡ others) s f)

-- two sets of n slots, and the words of both together
module _ (n words : ℕ) (one other : List ℕ) (w : n ≤ words * 64) where
  clear_below : (from k : ℕ) → k ≤ n
      → ((j : ℕ) → from ≤ j → j < k → is_bit (joined words one other) j ≡ false)
      → IsClear (bits n one) from k × IsClear (bits n other) from k
  clear_below from k l c = (
    record { each = λ j a b. bits_at n one j (omega arith) ∙ (in_neither words one other j (omega arith) (c j a b)).0 },
    record { each = λ j a b. bits_at n other j (omega arith) ∙ (in_neither words one other j (omega arith) (c j a b)).1 },
  )

  -- the first slot of the union from a slot on is the next of either set
  pub next_in : (from k : ℕ) → from ≤ k → k < n → is_bit (joined words one other) k ≡ true
      → ((j : ℕ) → from ≤ j → j < k → is_bit (joined words one other) j ≡ false)
      → IsNextInEither (bits n one) (bits n other) from k
  next_in from k l m t c = record {
    low = l;
    high = rw (bits_length n one) m;
    is = elim (in_either words one other k (omega arith) t) [ inl x ↦ inl (bits_at n one k m ∙ x) | inr x ↦ inr (bits_at n other k m ∙ x) ];
    one_clear = (clear_below from k (omega arith) c).0;
    other_clear = (clear_below from k (omega arith) c).1;
  }

  -- if the union has no slot from one on, neither set has one
  pub none_in : (from : ℕ) → ((k : ℕ) → from ≤ k → k < n → is_bit (joined words one other) k ≡ false)
      → IsNextOfEither (bits n one) (bits n other) from None
  none_in from c = rw (bits_length n one) (clear_below from n (omega arith) c)

-- a set of fewer than 2^32 slots has fewer than 2^32 truth values
pub small : (n : ℕ) (words : List ℕ) → n < 2 ^ 32 → length (bits n words) < 2 ^ 32
small n words l = rw (bits_length n words) l
