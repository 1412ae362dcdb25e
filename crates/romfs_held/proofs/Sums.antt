-- The sum of complete words: of fewer than four bytes it is 0 (sum_short), of others that of the first word and of the bytes after it
-- (sum_next), and so of the first words and of those after them (sum_parts).
use Rattle.std.proofs.Common.{◌≡◌, ◌∙◌, sym, ap, ℕ, zero, suc, ◌+◌, ◌-◌, ◌*◌, ◌/◌, ◌^◌, ◌%◌, ◌<◌, ◌≤◌, List, [], ◌∷◌, length, take, drop, get_or, refl, arith, length-drop, length-take-le}
use Rattle.std.proofs.lemmas.List.{get_or-drop, get_or-take, ext_get_or}
use Rattle.byteorder.specs.Endian.{big_number}
use Rattle.romfs_format.specs.Fields.{word, word_sum}
use Rattle.romfs_held.specs.Blocks.{filled, IsRun, IsSumOfSome}
use Rattle.romfs_held.proofs.Fields.{big_same}
use Rattle.romfs_held.proofs.Fronts.{filled_at, filled_long}

pub sum_short : (xs : List ℕ) → length xs < 4 → word_sum xs ≡ 0
sum_short [] l = refl
sum_short (x ∷ []) l = refl
sum_short (x ∷ y ∷ []) l = refl
sum_short (x ∷ y ∷ z ∷ []) l = refl
sum_short (x ∷ y ∷ z ∷ w ∷ xs) l = absurd (omega arith)

pub sum_next : (xs : List ℕ) → 4 ≤ length xs → word_sum xs ≡ big_number 4 xs + word_sum (drop 4 xs)
sum_next [] l = absurd (omega arith)
sum_next (x ∷ []) l = absurd (omega arith)
sum_next (x ∷ y ∷ []) l = absurd (omega arith)
sum_next (x ∷ y ∷ z ∷ []) l = absurd (omega arith)
sum_next (x ∷ y ∷ z ∷ w ∷ xs) l = omega arith

sum_quads : (k : ℕ) (xs : List ℕ) → 4 * k ≤ length xs → word_sum (take (4 * k) xs) + word_sum (drop (4 * k) xs) ≡ word_sum xs
sum_quads zero xs l = omega arith
sum_quads (suc k) [] l = absurd (omega arith)
sum_quads (suc k) (x ∷ []) l = absurd (omega arith)
sum_quads (suc k) (x ∷ y ∷ []) l = absurd (omega arith)
sum_quads (suc k) (x ∷ y ∷ z ∷ []) l = absurd (omega arith)
sum_quads (suc k) (x ∷ y ∷ z ∷ w ∷ xs) l =
    let h = sum_quads k xs (omega arith) in
    let e : 4 * suc k ≡ suc (suc (suc (suc (4 * k)))) = omega arith in
    ap (λ n. word_sum (take n (x ∷ y ∷ z ∷ w ∷ xs)) + word_sum (drop n (x ∷ y ∷ z ∷ w ∷ xs))) e ∙ omega arith

sum_parts : (count : ℕ) (xs : List ℕ) → count % 4 ≡ 0 → count ≤ length xs
    → word_sum (take count xs) + word_sum (drop count xs) ≡ word_sum xs
sum_parts count xs w l =
    ap (λ n. word_sum (take n xs) + word_sum (drop n xs)) (let e : count ≡ 4 * (count / 4) = omega arith in e)
    ∙ sum_quads (count / 4) xs (omega arith)

module _ (a : List ℕ) (at len : ℕ) (within : at + len ≤ length a) where
  part : List ℕ
  part = take len (drop at a)

  part_long : length part ≡ len
  unfolding part
  part_long = (let d = length-drop at a in length-take-le len (drop at a) (omega arith))

  part_at : (i : ℕ) → i < len → get_or part i 0 ≡ get_or a (at + i) 0
  unfolding part
  part_at i l = get_or-take len (drop at a) i 0 l ∙ get_or-drop at a i 0

  -- nothing is summed yet
  pub sum_begins : (0 + word_sum (drop 0 (take len (drop at a)))) % 2 ^ 32 ≡ word_sum (take len (drop at a)) % 2 ^ 32
  sum_begins = ap (λ n. n % 2 ^ 32) (let e : 0 + word_sum (take len (drop at a)) ≡ word_sum (take len (drop at a)) = omega arith in e)

  -- some words more
  pub sum_goes_on : (sum done next some count : ℕ) → done ≤ len → IsSumOfSome a (at + done) (len - done) some count
      → next ≡ (sum + some) % 2 ^ 32
      → (sum + word_sum (drop done (take len (drop at a)))) % 2 ^ 32 ≡ word_sum (take len (drop at a)) % 2 ^ 32
      → (next + word_sum (drop (done + count) (take len (drop at a)))) % 2 ^ 32 ≡ word_sum (take len (drop at a)) % 2 ^ 32
  unfolding part
  sum_goes_on sum done next some count l r e h =
      let d = length-drop done part in
      let z = part_long in
      let m = r.within in
      let s = sum_parts count (drop done part) r.whole (omega arith) in
      let front : take count (drop done part) ≡ take count (drop (at + done) a) = ext_get_or 0 _ _
      (let p = length-take-le count (drop done part) (omega arith) in
      let f = length-drop (at + done) a in let q = length-take-le count (drop (at + done) a) (omega arith) in omega arith)
      (λ i n. let p = length-take-le count (drop done part) (omega arith) in
      get_or-take count (drop done part) i 0 (omega arith) ∙ get_or-drop done part i 0 ∙ part_at (done + i) (omega arith)
      ∙ ap (λ k. get_or a k 0) (let g : at + (done + i) ≡ at + done + i = omega arith in g)
      ∙ sym (get_or-take count (drop (at + done) a) i 0 (omega arith) ∙ get_or-drop (at + done) a i 0)) in
      let rest : drop count (drop done part) ≡ drop (done + count) part = ext_get_or 0 _ _
      (let p = length-drop count (drop done part) in let q = length-drop (done + count) part in omega arith)
      (λ i n. get_or-drop count (drop done part) i 0 ∙ get_or-drop done part (count + i) 0
      ∙ ap (λ k. get_or part k 0) (let g : done + (count + i) ≡ done + count + i = omega arith in g)
      ∙ sym (get_or-drop (done + count) part i 0)) in
      let f = ap word_sum front in
      let t = ap word_sum rest in
      let is = r.is in
      omega arith

  -- fewer than four bytes are left
  pub sum_ends : (sum done : ℕ) → done ≤ len → len < done + 4 → sum < 2 ^ 32
      → (sum + word_sum (drop done (take len (drop at a)))) % 2 ^ 32 ≡ word_sum (take len (drop at a)) % 2 ^ 32
      → sum ≡ word_sum (take len (drop at a)) % 2 ^ 32
  unfolding part
  sum_ends sum done l m b h =
      let d = length-drop done part in
      let z = part_long in
      let s = sum_short (drop done part) (omega arith) in
      omega arith

-- a run that is long enough has the bytes
pub run_part : (size : ℕ) (blocks bytes : List ℕ) (at len : ℕ) (xs : List ℕ) → IsRun blocks bytes at xs → len ≤ length xs → at + len ≤ size
    → take len xs ≡ take len (drop at (filled size blocks bytes))
run_part size blocks bytes at len xs r l m =
    let f = filled_long size blocks bytes in
    let d = length-drop at (filled size blocks bytes) in
    let p = length-take-le len (drop at (filled size blocks bytes)) (omega arith) in
    let q = length-take-le len xs l in
    ext_get_or 0 _ _ (omega arith) (λ i n.
    get_or-take len xs i 0 (omega arith) ∙ sym (r.is i (omega arith)) ∙ sym (filled_at size blocks bytes (at + i) (omega arith))
    ∙ sym (get_or-take len (drop at (filled size blocks bytes)) i 0 (omega arith) ∙ get_or-drop at (filled size blocks bytes) i 0))

-- so its words are summed
pub run_words : (size : ℕ) (blocks bytes : List ℕ) (at len count sum : ℕ) (xs : List ℕ) → IsRun blocks bytes at xs → count ≤ length xs
    → count ≤ len → 4 ≤ count → count % 4 ≡ 0 → at + len ≤ size → sum ≡ word_sum (take count xs) % 2 ^ 32
    → IsSumOfSome (filled size blocks bytes) at len sum count
run_words size blocks bytes at len count sum xs r l m some whole w e = record {
  some = some;
  within = m;
  whole = whole;
  is = e ∙ ap (λ ys. word_sum ys % 2 ^ 32) (run_part size blocks bytes at count xs r l (omega arith));
}

-- and so is a word alone
pub one_word : (a : List ℕ) (at len sum : ℕ) → at + len ≤ length a → 4 ≤ len → sum ≡ word a at → sum < 2 ^ 32
    → IsSumOfSome a at len sum 4
unfolding word
one_word a at len sum w l e small =
    let d = length-drop at a in
    let t = length-take-le 4 (drop at a) (omega arith) in
    let s = sum_next (take 4 (drop at a)) (omega arith) in
    let f = length-drop 4 (take 4 (drop at a)) in
    let z = sum_short (drop 4 (take 4 (drop at a))) (omega arith) in
    let b : big_number 4 (take 4 (drop at a)) ≡ big_number 4 (drop at a) = big_same (take 4 (drop at a)) (drop at a) (λ i m.
    get_or-take 4 (drop at a) i 0 m) in
    record { some = omega arith; within = l; whole = refl; is = omega arith }
