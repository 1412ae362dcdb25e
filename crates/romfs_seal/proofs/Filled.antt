-- A file's bytes in blocks: each is the file's, filled with zeros (block-filled).
use Rattle.std.proofs.Common.{◌≡◌, ◌∙◌, sym, ap, ℕ, zero, suc, ◌+◌, ◌-◌, ◌*◌, ◌<◌, ◌≤◌, List, [], ◌∷◌, ◌++◌, length, take, drop, replicate, get_or, slice_index, refl, arith, inl, inr, length-append, length-drop, ext_get_or, min, append-nil}
use Rattle.std.proofs.lemmas.List.{take_at, length-take, length-replicate, get_or_append_left, get_or-append_right}
use Rattle.std.proofs.lemmas.Bool.{cases_lt}
use Rattle.devices.specs.declared.algorithm.Algorithm.{Algorithm}
use Rattle.romfs_seal.specs.Digests.{bytes-append}
use Rattle.devices.specs.Tree.{Hash, AreBytes, IsBlock, IsDigest, block, blocks_above, above, tree, tree_blocks}
use Rattle.devices.specs.File.{blocks_of, filled, in_blocks}
use Rattle.romfs_seal.proofs.Levels.{bytes-zeros, block-is, blocks-above, index-block}
use Rattle.romfs_seal.proofs.FileBlocks.{blocks-file}

-- ---- zeros behind bytes

zero_at : (m k : ℕ) → ◌≡◌ {A = ℕ} (get_or {A = ℕ} (replicate m 0) k 0) 0
zero_at zero k = refl
zero_at (suc m) zero = refl
zero_at (suc m) (suc k) = zero_at m k

past_end : (xs : List ℕ) (k : ℕ) → length xs ≤ k → get_or xs k 0 ≡ 0
past_end [] k past = refl
past_end (x ∷ xs) zero past = absurd (omega arith)
past_end (x ∷ xs) (suc k) past = past_end xs k (omega arith)

zeros_behind : (xs : List ℕ) (m k : ℕ) → get_or (xs ++ replicate m 0) k 0 ≡ get_or xs k 0
zeros_behind xs m k =
    elim (cases_lt k (length xs)) [
      | inl less ↦ get_or_append_left xs (replicate m 0) 0 k less
      | inr past ↦ get_or-append_right xs (replicate m 0) (length xs) k 0 refl past ∙ zero_at m (k - length xs) ∙ sym (past_end xs k past)
    ]

pub index-in_blocks : (xs : List ℕ) (k : ℕ) → slice_index (in_blocks xs) k ≡ slice_index xs k
unfolding in_blocks
index-in_blocks xs k = zeros_behind xs (4096 * blocks_of (length xs) - length xs) k

-- ---- one block

pub length-filled : (c : List ℕ) → length c ≤ 4096 → length (filled c) ≡ 4096
unfolding filled
length-filled c fits =
    let both = length-append c (replicate (4096 - length c) 0) in
    let pad = length-replicate {A = ℕ} (4096 - length c) 0 in
    omega (arith, both, pad, fits)

pub filled-is : (c : List ℕ) → AreBytes c → length c ≤ 4096 → IsBlock (filled c)
unfolding filled
filled-is c bytes fits = record {
  whole = length-filled c fits;
  bytes = bytes-append c (replicate (4096 - length c) 0) bytes (bytes-zeros (4096 - length c));
}

pub index-filled : (c : List ℕ) (k : ℕ) → slice_index (filled c) k ≡ slice_index c k
unfolding filled
index-filled c k = zeros_behind c (4096 - length c) k

pub filled_whole : (c : List ℕ) → length c ≡ 4096 → filled c ≡ c
unfolding filled
filled_whole c whole =
    let none : 4096 - length c ≡ 0 = omega (arith, whole) in
    ap (λ k. c ++ replicate k 0) none ∙ append-nil c

pub filled_first : (c : List ℕ) → take (length c) (filled c) ≡ c
unfolding filled
filled_first c = take_at c (replicate (4096 - length c) 0) (length c) refl

-- ---- the blocks of a file

pub length-block : (xs : List ℕ) (i : ℕ) → length (block xs i) ≡ min 4096 (length xs - 4096 * i)
unfolding block
length-block xs i = length-take 4096 (drop (4096 * i) xs) ∙ ap (λ k. min 4096 k) (length-drop (4096 * i) xs)

block_small : (xs : List ℕ) (i : ℕ) → length (block xs i) ≤ 4096
block_small xs i = (let e = length-block xs i in omega arith)

pub block-filled : (xs : List ℕ) (i : ℕ) → AreBytes xs → i < blocks_of (length xs) → block (in_blocks xs) i ≡ filled (block xs i)
unfolding in_blocks
block-filled xs i bytes below =
    let whole : length (block (in_blocks xs) i) ≡ 4096 =
    (block-is (in_blocks xs) (blocks_of (length xs)) i (blocks-file xs bytes) below).whole in
    let size : length (filled (block xs i)) ≡ 4096 = length-filled (block xs i) (block_small xs i) in
    ext_get_or 0 (block (in_blocks xs) i) (filled (block xs i)) (whole ∙ sym size)
    (λ k less.
    let within : k < 4096 = omega (arith, less, whole) in
    index-block (in_blocks xs) i k within
    ∙ zeros_behind xs (4096 * blocks_of (length xs) - length xs) (4096 * i + k)
    ∙ sym (index-filled (block xs i) k ∙ index-block xs i k within))

-- a file of one block
pub only-filled : (xs : List ℕ) → 0 < length xs → blocks_of (length xs) ≤ 1 → in_blocks xs ≡ filled xs
unfolding in_blocks filled
only-filled xs some one =
    let e : 4096 * blocks_of (length xs) - length xs ≡ 4096 - length xs = omega arith in
    ap (λ k. xs ++ replicate k 0) e

-- ---- the levels, as they are stored

pub length-tree : (a : Algorithm) (h : Hash) (sized : (m : List ℕ) → IsDigest a (h m)) (levels : ℕ) (xs : List ℕ) (n : ℕ)
    → length (tree a h levels xs n) ≡ 4096 * tree_blocks a levels n
unfolding tree tree_blocks
length-tree a h sized zero xs n = refl
length-tree a h sized (suc levels) xs n =
    let upper = length-tree a h sized levels (above a h xs n) (blocks_above a n) in
    let lower = (blocks-above a h sized xs n).whole in
    let both = length-append (tree a h levels (above a h xs n) (blocks_above a n)) (above a h xs n) in
    omega arith
