-- A file's bytes in blocks, and its descriptor: files with the same digest are the same, or have twins
-- (one_file).
use Rattle.std.proofs.Common.{◌≡◌, ◌∙◌, sym, ap, subst, ℕ, zero, suc, ◌+◌, ◌-◌, ◌*◌, ◌^◌, ◌<◌, ◌≤◌, List, [], ◌∷◌, ◌++◌, length, take, drop, replicate, refl, arith, inl, inr, ◌⊎◌, append_assoc, length-append}
use Rattle.std.specs.Int.{to_le_bytes, w64}
use Rattle.std.proofs.lemmas.Nat.{from_le_bytes-to_le_bytes_8}
use Rattle.std.specs.Int.{from_le_bytes}
use Rattle.std.proofs.lemmas.List.{take_at, take_all, length-replicate}
use Rattle.devices.specs.declared.algorithm.Algorithm.{Algorithm}
use Rattle.romfs_seal.specs.Digests.{bytes-append}
use Rattle.devices.specs.Tree.{Hash, AreBytes, IsDigest, AreBlocks, HasLevels, digest_size, root, root_hash}
use Rattle.devices.specs.File.{blocks_of, in_blocks, number, field, descriptor, root_of, IsFileDigest}
use Rattle.romfs_seal.specs.Twins.{HaveTwins, AreForged}
use Rattle.romfs_seal.proofs.Fans.{one_count}
use Rattle.romfs_seal.proofs.Levels.{bytes-zeros}
use Rattle.romfs_seal.proofs.Binding.{list_cases, one_root}

-- ---- bytes in blocks

pub blocks-file : (xs : List ℕ) → AreBytes xs → AreBlocks (in_blocks xs) (blocks_of (length xs))
unfolding in_blocks
blocks-file xs bytes =
    let rest = 4096 * blocks_of (length xs) - length xs in
    let pad = length-replicate {A = ℕ} rest 0 in
    let both = length-append xs (replicate rest 0) in
    record {
      whole = omega arith;
      bytes = bytes-append xs (replicate rest 0) bytes (bytes-zeros rest);
    }

file_front : (xs : List ℕ) → take (length xs) (in_blocks xs) ≡ xs
unfolding in_blocks
file_front xs = take_at xs (replicate (4096 * blocks_of (length xs) - length xs) 0) (length xs) refl

same_file : (xs ys : List ℕ) → length ys ≡ length xs → in_blocks ys ≡ in_blocks xs → ys ≡ xs
same_file xs ys long same = sym (file_front ys) ∙ ap (λ l. take (length ys) l) same ∙ ap (λ k. take k (in_blocks xs)) long ∙ file_front xs

-- ---- the descriptor

pub length-root : (a : Algorithm) (h : Hash) (sized : (m : List ℕ) → IsDigest a (h m)) (levels : ℕ) (xs : List ℕ) (n : ℕ)
    → length (root a h levels xs n) ≡ digest_size a
unfolding root
length-root a h sized zero xs n = (sized xs).whole
length-root a h sized (suc levels) xs n = length-root a h sized levels _ _

pub length-root_hash : (a : Algorithm) (h : Hash) (sized : (m : List ℕ) → IsDigest a (h m)) (levels : ℕ) (xs : List ℕ) (n : ℕ)
    → length (root_hash a h levels xs n) ≡ digest_size a
unfolding root_hash
length-root_hash a h sized levels xs zero = length-replicate {A = ℕ} (digest_size a) 0
length-root_hash a h sized levels xs (suc n) = length-root a h sized levels xs (suc n)

rest_of : List ℕ → List ℕ
rest_of r = field 64 r ++ (replicate 32 0 ++ replicate 144 0)

size_at : (a : Algorithm) (size : ℕ) (r : List ℕ) → drop 8 (descriptor a size r) ≡ to_le_bytes w64 size ++ rest_of r
unfolding descriptor rest_of
size_at a size r = refl

pub one_size : (a : Algorithm) (m n : ℕ) (r s : List ℕ) → m < 2 ^ 64 → n < 2 ^ 64 → descriptor a m r ≡ descriptor a n s → m ≡ n
one_size a m n r s small_m small_n same =
    let e : to_le_bytes w64 m ++ rest_of r ≡ to_le_bytes w64 n ++ rest_of s =
    sym (size_at a m r) ∙ ap (λ l. drop 8 l) same ∙ size_at a n s in
    let words : to_le_bytes w64 m ≡ to_le_bytes w64 n =
    sym (take_at (to_le_bytes w64 m) (rest_of r) 8 refl) ∙ ap (λ l. take 8 l) e ∙ take_at (to_le_bytes w64 n) (rest_of s) 8 refl in
    sym (from_le_bytes-to_le_bytes_8 m small_m) ∙ ap (λ l. from_le_bytes w64 l) words ∙ from_le_bytes-to_le_bytes_8 n small_n

root_at : (a : Algorithm) (size : ℕ) (r : List ℕ) → length r ≡ digest_size a → take (digest_size a) (drop 16 (descriptor a size r)) ≡ r
unfolding descriptor field
root_at a size r long =
    ap (λ l. take (digest_size a) l) (append_assoc r (replicate (64 - length r) 0) (replicate 32 0 ++ replicate 144 0))
    ∙ take_at r (replicate (64 - length r) 0 ++ (replicate 32 0 ++ replicate 144 0)) (digest_size a) long

pub one_top : (a : Algorithm) (m n : ℕ) (r s : List ℕ) → length r ≡ digest_size a → length s ≡ digest_size a
    → descriptor a m r ≡ descriptor a n s → r ≡ s
one_top a m n r s long_r long_s same =
    sym (root_at a m r long_r) ∙ ap (λ l. take (digest_size a) (drop 16 l)) same ∙ root_at a n s long_s

-- ---- files

pub root_some : (a : Algorithm) (h : Hash) (levels : ℕ) (xs : List ℕ) (n : ℕ) → 0 < n → root_hash a h levels xs n ≡ root a h levels xs n
unfolding root_hash
root_some a h levels xs zero some = absurd (omega arith)
root_some a h levels xs (suc n) some = refl

no_bytes : (l : List ℕ) → length l ≡ 4096 * 0 → l ≡ []
no_bytes [] e = refl
no_bytes (x ∷ l) e = absurd (omega arith)

one_tree : (a : Algorithm) (h : Hash) (sized : (m : List ℕ) → IsDigest a (h m)) (levels : ℕ) (xs ys : List ℕ) (n : ℕ)
    → AreBlocks xs n → AreBlocks ys n → root_hash a h levels ys n ≡ root_hash a h levels xs n → (ys ≡ xs) ⊎ HaveTwins a h levels xs ys n
one_tree a h sized levels xs ys zero p q same = inl (no_bytes ys (q.whole) ∙ sym (no_bytes xs (p.whole)))
one_tree a h sized levels xs ys (suc n) p q same =
    one_root a h sized levels xs ys (suc n) p q
    (sym (root_some a h levels ys (suc n) (omega arith)) ∙ same ∙ root_some a h levels xs (suc n) (omega arith))

pub one_file : (a : Algorithm) (h : Hash) (sized : (m : List ℕ) → IsDigest a (h m)) (xs ys d : List ℕ)
    → (x : IsFileDigest a h xs d) → (y : IsFileDigest a h ys d) → (ys ≡ xs) ⊎ AreForged a h xs ys x.levels y.levels
one_file a h sized xs ys d x y =
    elim (list_cases (descriptor a (length ys) (root_of a h y.levels ys)) (descriptor a (length xs) (root_of a h x.levels xs))) [
      | inr other ↦ inr (record { twins = inl (record { same = y.digest ∙ sym x.digest; other = other }) })
      | inl same ↦
          let n = blocks_of (length xs) in
          let small_x = x.small in
          let small_y = y.small in
          let long : length ys ≡ length xs =
          one_size a (length ys) (length xs) (root_of a h y.levels ys) (root_of a h x.levels xs) (omega arith) (omega arith) same in
          let top : root_of a h y.levels ys ≡ root_of a h x.levels xs =
          one_top a (length ys) (length xs) (root_of a h y.levels ys) (root_of a h x.levels xs)
          (length-root_hash a h sized (y.levels) (in_blocks ys) (blocks_of (length ys)))
          (length-root_hash a h sized (x.levels) (in_blocks xs) n) same in
          let count : blocks_of (length ys) ≡ n = ap (λ k. blocks_of k) long in
          let levels : y.levels ≡ x.levels =
          one_count a n (y.levels) (x.levels) (subst (λ k. HasLevels a k y.levels) count (y.has_levels)) (x.has_levels) in
          let moved : root_hash a h x.levels (in_blocks ys) n ≡ root_hash a h x.levels (in_blocks xs) n =
          ap (λ k. root_hash a h k (in_blocks ys) n) (sym levels)
          ∙ ap (λ k. root_hash a h y.levels (in_blocks ys) k) (sym count) ∙ top in
          elim (one_tree a h sized (x.levels) (in_blocks xs) (in_blocks ys) n (blocks-file xs (x.bytes))
          (subst (λ k. AreBlocks (in_blocks ys) k) count (blocks-file ys (y.bytes))) moved) [
            | inr twins ↦ inr (record { twins = inr twins })
            | inl is ↦ inl (same_file xs ys long is)
          ]
    ]

-- ---- a descriptor as it is made

zeros_more : (m n : ℕ) → replicate m 0 ++ replicate n 0 ≡ replicate {A = ℕ} (m + n) 0
zeros_more zero n = (let e : n ≡ 0 + n = omega arith in ap (λ k. replicate {A = ℕ} k 0) e)
zeros_more (suc m) n =
    let e : suc (m + n) ≡ suc m + n = omega arith in
    ap (λ l. 0 ∷ l) (zeros_more m n) ∙ ap (λ k. replicate {A = ℕ} k 0) e

made_end : (top : List ℕ) → length top ≤ 64 → top ++ replicate (240 - length top) 0 ≡ rest_of top
unfolding field rest_of
made_end top fits =
    let e : 240 - length top ≡ 64 - length top + 176 = omega arith in
    ap (λ k. top ++ replicate k 0) e
    ∙ ap (λ l. top ++ l) (sym (zeros_more (64 - length top) 176))
    ∙ sym (append_assoc top (replicate (64 - length top) 0) (replicate 176 0))

pub descriptor_made : (a : Algorithm) (size m len : ℕ) (top made : List ℕ) → length top ≤ 64 → len ≡ length made → m ≡ number a
    → made ≡ ((1 ∷ m ∷ 12 ∷ 0 ∷ 0 ∷ 0 ∷ 0 ∷ 0 ∷ []) ++ to_le_bytes w64 size) ++ top
    → take 256 made ++ replicate (256 - len) 0 ≡ descriptor a size top
unfolding descriptor field rest_of
descriptor_made a size m len top made fits count named e =
    let long : length made ≡ length (((1 ∷ m ∷ 12 ∷ 0 ∷ 0 ∷ 0 ∷ 0 ∷ 0 ∷ []) ++ to_le_bytes w64 size) ++ top) = ap (λ l. length l) e in
    let whole : take 256 made ≡ made = take_all 256 made (omega (arith, long, fits)) in
    let left : 256 - len ≡ 240 - length top = omega (arith, long, count) in
    ap (λ l. l ++ replicate (256 - len) 0) (whole ∙ e)
    ∙ ap (λ k. (((1 ∷ m ∷ 12 ∷ 0 ∷ 0 ∷ 0 ∷ 0 ∷ 0 ∷ []) ++ to_le_bytes w64 size) ++ top) ++ replicate k 0) left
    ∙ ap (λ l. ((1 ∷ m ∷ 12 ∷ 0 ∷ 0 ∷ 0 ∷ 0 ∷ 0 ∷ []) ++ to_le_bytes w64 size) ++ l) (made_end top fits)
    ∙ ap (λ k. ((1 ∷ k ∷ 12 ∷ 0 ∷ 0 ∷ 0 ∷ 0 ∷ 0 ∷ []) ++ to_le_bytes w64 size) ++ rest_of top) named
