-- A level and the one above it: each digest is at its place (digest_at-above), and the level above is whole blocks (blocks-above).
use Rattle.std.proofs.Common.{◌≡◌, ◌∙◌, sym, ap, subst, ℕ, zero, suc, ◌+◌, ◌-◌, ◌*◌, ◌<◌, ◌≤◌, List, ◌++◌, length, take, drop, replicate, get_or, arith, append_assoc, length-append, length-take-le, length-drop, inl, inr, slice_index}
use Rattle.std.proofs.lemmas.List.{take_at, drop_at, drop-drop, drop-take, take-take, take_all, get_or-take, get_or-drop, get_or-replicate, length-replicate}
use Rattle.std.proofs.lemmas.Bool.{cases_lt}
use Rattle.devices.specs.declared.algorithm.Algorithm.{Algorithm}
use Rattle.romfs_seal.specs.Digests.{bytes_nil, bytes-append}
use Rattle.devices.specs.Tree.{Hash, AreBytes, IsBlock, IsDigest, AreBlocks, digest_size, fan, block, digest_at, digests, blocks_above, above}
use Rattle.romfs_seal.proofs.Fans.{above_fits, one_more, none_yet, digest_fits, digest_place}

-- ---- bytes

pub bytes-part : (xs : List ℕ) (n m : ℕ) → AreBytes xs → n + m ≤ length xs → AreBytes (take n (drop m xs))
bytes-part xs n m a fits = record {
  small = λ k below.
      let long : n ≤ length (drop m xs) = (let e = length-drop m xs in omega arith) in
      let size : length (take n (drop m xs)) ≡ n = length-take-le n (drop m xs) long in
      let less : k < n = omega arith in
      let e : get_or (take n (drop m xs)) k 0 ≡ get_or xs (m + k) 0 = get_or-take n (drop m xs) k 0 less ∙ get_or-drop m xs k 0 in
      subst (λ x. x < 256) (sym e) (a.small (m + k) (omega arith));
}

pub bytes-zeros : (n : ℕ) → AreBytes (replicate n 0)
bytes-zeros n = record {
  small = λ k below.
      let size = length-replicate {A = ℕ} n 0 in
      let less : k < n = omega (arith, below, size) in
      let e : get_or (replicate n 0) k 0 ≡ 0 = get_or-replicate n k 0 0 less in
      subst (λ x. x < 256) (sym e) (omega arith);
}

-- ---- digests

pub length-digests : (a : Algorithm) (h : Hash) (sized : (m : List ℕ) → IsDigest a (h m)) (xs : List ℕ) (n : ℕ)
    → length (digests h xs n) ≡ digest_size a * n
unfolding digests
length-digests a h sized xs zero = none_yet a
length-digests a h sized xs (suc n) =
    let before = length-digests a h sized xs n in
    let last = (sized (block xs n)).whole in
    length-append (digests h xs n) (h (block xs n)) ∙ ap (λ k. k + length (h (block xs n))) before
    ∙ ap (λ k. digest_size a * n + k) last ∙ one_more a n

bytes-digests : (a : Algorithm) (h : Hash) (sized : (m : List ℕ) → IsDigest a (h m)) (xs : List ℕ) (n : ℕ) → AreBytes (digests h xs n)
unfolding digests
bytes-digests a h sized xs zero = bytes_nil
bytes-digests a h sized xs (suc n) =
    bytes-append (digests h xs n) (h (block xs n)) (bytes-digests a h sized xs n) ((sized (block xs n)).bytes)

digest_at-digests : (a : Algorithm) (h : Hash) (sized : (m : List ℕ) → IsDigest a (h m)) (xs tail : List ℕ) (n i : ℕ) → i < n
    → digest_at a (digests h xs n ++ tail) i ≡ h (block xs i)
unfolding digests digest_at
digest_at-digests a h sized xs tail zero i below = absurd (omega arith)
digest_at-digests a h sized xs tail (suc n) i below =
    let last = (sized (block xs n)).whole in
    let size = length-digests a h sized xs n in
    let shape : (digests h xs n ++ h (block xs n)) ++ tail ≡ digests h xs n ++ (h (block xs n) ++ tail) =
    append_assoc (digests h xs n) (h (block xs n)) tail in
    elim (cases_lt i n) [
      | inl less ↦ ap (λ l. digest_at a l i) shape ∙ digest_at-digests a h sized xs (h (block xs n) ++ tail) n i less
      | inr not_less ↦
          let same : i ≡ n = omega arith in
          ap (λ l. digest_at a l i) shape
          ∙ ap (λ k. take (digest_size a) (drop (digest_size a * k) (digests h xs n ++ (h (block xs n) ++ tail)))) same
          ∙ ap (λ l. take (digest_size a) l) (drop_at (digests h xs n) (h (block xs n) ++ tail) (digest_size a * n) size)
          ∙ take_at (h (block xs n)) tail (digest_size a) last
          ∙ ap (λ k. h (block xs k)) (sym same)
    ]

-- ---- the level above

pub digest_at-above : (a : Algorithm) (h : Hash) (sized : (m : List ℕ) → IsDigest a (h m)) (xs : List ℕ) (n i : ℕ) → i < n
    → digest_at a (above a h xs n) i ≡ h (block xs i)
unfolding above
digest_at-above a h sized xs n i below =
    digest_at-digests a h sized xs (replicate (4096 * blocks_above a n - digest_size a * n) 0) n i below

pub blocks-above : (a : Algorithm) (h : Hash) (sized : (m : List ℕ) → IsDigest a (h m)) (xs : List ℕ) (n : ℕ)
    → AreBlocks (above a h xs n) (blocks_above a n)
unfolding above
blocks-above a h sized xs n =
    let size = length-digests a h sized xs n in
    let pad = length-replicate {A = ℕ} (4096 * blocks_above a n - digest_size a * n) 0 in
    let both = length-append (digests h xs n) (replicate (4096 * blocks_above a n - digest_size a * n) 0) in
    let fits = above_fits a n in
    record {
      whole = omega arith;
      bytes = bytes-append (digests h xs n) (replicate (4096 * blocks_above a n - digest_size a * n) 0) (bytes-digests a h sized xs n)
          (bytes-zeros (4096 * blocks_above a n - digest_size a * n));
    }

-- ---- blocks

pub block-is : (xs : List ℕ) (n i : ℕ) → AreBlocks xs n → i < n → IsBlock (block xs i)
unfolding block
block-is xs n i a below =
    let size = a.whole in
    let fits : 4096 + 4096 * i ≤ length xs = omega arith in
    let long : 4096 ≤ length (drop (4096 * i) xs) = (let e = length-drop (4096 * i) xs in omega arith) in
    record { whole = length-take-le 4096 (drop (4096 * i) xs) long; bytes = bytes-part xs 4096 (4096 * i) (a.bytes) fits }

pub block-only : (xs : List ℕ) (n i : ℕ) → AreBlocks xs n → i < n → n ≤ 1 → block xs i ≡ xs
unfolding block
block-only xs n i a below one =
    let size = a.whole in
    let first : i ≡ 0 = omega arith in
    ap (λ k. take 4096 (drop (4096 * k) xs)) first ∙ take_all 4096 xs (omega arith)

-- a part of a part
pub part-part : (ys : List ℕ) (n m s : ℕ) → n + m ≤ s → take n (drop m (take s ys)) ≡ take n (drop m ys)
part-part ys n m s fits =
    let e : s ≡ m + (s - m) = omega arith in
    ap (λ k. take n (drop m (take k ys))) e ∙ ap (λ l. take n l) (drop-take m (s - m) ys) ∙ take-take n (s - m) (drop m ys) (omega arith)

pub digest_at-block : (a : Algorithm) (xs : List ℕ) (j r : ℕ) → r < fan a → digest_at a (block xs j) r ≡ digest_at a xs (fan a * j + r)
unfolding block digest_at
digest_at-block a xs j r below =
    part-part (drop (4096 * j) xs) (digest_size a) (digest_size a * r) 4096 (digest_fits a r below)
    ∙ ap (λ l. take (digest_size a) l) (drop-drop (digest_size a * r) (4096 * j) xs)
    ∙ ap (λ k. take (digest_size a) (drop k xs)) (digest_place a j r)

pub index-block : (xs : List ℕ) (i k : ℕ) → k < 4096 → slice_index (block xs i) k ≡ slice_index xs (4096 * i + k)
unfolding block
index-block xs i k below = get_or-take 4096 (drop (4096 * i) xs) k 0 below ∙ get_or-drop (4096 * i) xs k 0
