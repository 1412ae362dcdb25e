-- The digests under one of the lowest hash blocks: if there is none, the root hash alone (leaf_none); otherwise those of a block whose
-- digest is kept (leaf_kept).
use Rattle.std.proofs.Common.{◌-◌, ◌≡◌, ◌≢◌, ◌∙◌, sym, ap, subst, ℕ, zero, suc, ◌+◌, ◌*◌, ◌/◌, ◌%◌, ◌^◌, ◌<◌, ◌≤◌, List, ◌++◌, length, take, drop, refl, arith, length-append, length-drop}
use Rattle.std.proofs.lemmas.List.{take_at, take_all}
use Rattle.devices.specs.declared.algorithm.Algorithm.{Algorithm}
use Rattle.devices.specs.declared.algorithm.Algorithm.TheVariants.{Sha256, Sha512}
use Rattle.devices.specs.Tree.{Hash, AreBytes, IsBlock, IsDigest, AreBlocks, HasLevels, digest_size, fan, block, digest_at, blocks_above, above, root}
use Rattle.devices.specs.File.{blocks_of, in_blocks, filled}
use Rattle.devices.specs.Vouched.{Vouches}
use Rattle.romfs_seal.proofs.Fans.{none_yet, above_within, split_is, rest_below, one_block, few_blocks, one_level_less, one_count}
use Rattle.romfs_seal.proofs.Levels.{block-is, block-only, blocks-above, digest_at-above, digest_at-block}
use Rattle.romfs_seal.proofs.Binding.{vouches}
use Rattle.romfs_seal.proofs.FileBlocks.{blocks-file, root_some}
use Rattle.romfs_seal.proofs.Filled.{filled_whole}
use Rattle.devices.specs.Seal.{Seal, lowest_place, kept_len, kept_root, kept_of, IsGiven}
use Rattle.devices.specs.Read.{IsAloneAt, IsUnmatched}
use Rattle.romfs_seal.specs.Kept.{IsOpened, IsLeaf, first_under}

-- ---- places in a leaf

pub in_run : (a : Algorithm) (j i : ℕ) → first_under a j ≤ i → i < first_under a j + fan a → i / fan a ≡ j / fan a
in_run Sha256 j i from below = omega arith
in_run Sha512 j i from below = omega arith

pub in_place : (a : Algorithm) (j i : ℕ) → first_under a j ≤ i → i < first_under a j + fan a → i - first_under a j ≡ i % fan a
in_place Sha256 j i from below = omega arith
in_place Sha512 j i from below = omega arith

pub no_place : (a : Algorithm) (j i : ℕ) → i ≡ 0 → i - first_under a j ≡ 0
no_place a j i none = omega arith

-- ---- no hash block

only_digest : (a : Algorithm) (kept rest : List ℕ) (k : ℕ) → length kept ≡ digest_size a → k ≡ 0 → digest_at a (kept ++ rest) k ≡ kept
unfolding digest_at
only_digest a kept rest k long first =
    ap (λ j. take (digest_size a) (drop (digest_size a * j) (kept ++ rest))) first
    ∙ ap (λ j. take (digest_size a) (drop j (kept ++ rest))) (sym (none_yet a))
    ∙ take_at kept rest (digest_size a) long

no_level : (a : Algorithm) (h : Hash) (levels n : ℕ) (kept : List ℕ) → levels ≡ 0 → length kept ≡ kept_len a levels n
    → length kept ≡ digest_size a
no_level a h zero n kept none long = long
no_level a h (suc levels) n kept none long = absurd (omega arith)

root_kept : (a : Algorithm) (h : Hash) (levels n : ℕ) (kept : List ℕ) → levels ≡ 0 → kept_root a h levels kept n ≡ kept
root_kept a h zero n kept none = refl
root_kept a h (suc levels) n kept none = absurd (omega arith)

none_vouches : (a : Algorithm) (h : Hash) (levels i : ℕ) (top b : List ℕ) → levels ≡ 0 → h b ≡ top → Vouches a h levels top i b
unfolding Vouches
none_vouches a h zero i top b none e = e
none_vouches a h (suc levels) i top b none e = absurd (omega arith)

none_kept : (a : Algorithm) (h : Hash) (levels : ℕ) (xs : List ℕ) (n i : ℕ) → levels ≡ 0 → AreBlocks xs n → n ≤ 1 → i < n
    → kept_of a h levels xs n ≡ h (block xs i)
unfolding root
none_kept a h zero xs n i none blocks one below =
    root_some a h 0 xs n (omega arith) ∙ ap h (sym (block-only xs n i blocks below one))
none_kept a h (suc levels) xs n i none blocks one below = absurd (omega arith)

pub leaf_none : (s : Seal) (levels lowest : ℕ) (kept room : List ℕ) (j : ℕ) → levels ≡ 0 → IsOpened s levels lowest kept
    → length room ≡ 4096 → digest_size s.algorithm ≤ 64 → IsLeaf s (first_under s.algorithm j) (kept ++ drop (length kept) room)
leaf_none s levels lowest kept room j none o room_long small =
    let a = s.algorithm in
    let n = blocks_of s.size in
    let both = length-append kept (drop (length kept) room) in
    let rest = length-drop (length kept) room in
    let size = no_level a s.hash levels n kept none (o.long) in
    let one = few_blocks a n levels none (o.has_levels) in
    record {
      long = omega arith;
      levels = levels;
      has_levels = o.has_levels;
      top = kept_root a s.hash levels kept n;
      described = o.described;
      vouches = λ i b from less below e.
          none_vouches a s.hash levels i (kept_root a s.hash levels kept n) b none
          (e ∙ only_digest a kept (drop (length kept) room) (i - first_under a j) size (no_place a j i (omega (arith, below, one)))
          ∙ sym (root_kept a s.hash levels n kept none));
      sized = λ xs u. (o.right xs u).0;
      right = λ xs u i from less below.
          let told = o.right xs u in
          let m = blocks_of (length xs) in
          let count : n ≡ m = ap (λ k. blocks_of k) (told.0) in
          only_digest a kept (drop (length kept) room) (i - first_under a j) size (no_place a j i (omega (arith, below, one)))
          ∙ told.1
          ∙ none_kept a s.hash levels (in_blocks xs) m i none (blocks-file xs (u.of.bytes)) (subst (λ k. k ≤ 1) count one)
          (subst (λ k. i < k) count below);
    }

-- ---- the digest of a hash block is kept

upper_vouched : (a : Algorithm) (h : Hash) (sized : (m : List ℕ) → IsDigest a (h m))
    → (levels n : ℕ) (kept : List ℕ) (index : ℕ) (leaf : List ℕ)
    → HasLevels a n (suc levels) → length kept ≡ kept_len a (suc levels) n → AreBytes kept
    → index < blocks_above a n → h leaf ≡ digest_at a kept index → Vouches a h levels (kept_root a h (suc levels) kept n) index leaf
unfolding Vouches digest_at
upper_vouched a h sized zero n kept index leaf has long bytes within e =
    let one : blocks_above a n ≤ 1 = one_block a (blocks_above a n) (one_level_less a n 0 (has.enough)) in
    let first : index ≡ 0 = omega arith in
    e ∙ ap (λ k. take (digest_size a) (drop (digest_size a * k) kept)) first
    ∙ ap (λ k. take (digest_size a) (drop k kept)) (sym (none_yet a)) ∙ take_all (digest_size a) kept (omega arith)
upper_vouched a h sized (suc levels) n kept index leaf has long bytes within e =
    let more = blocks_above a (blocks_above a n) in
    let blocks : AreBlocks kept more = record { whole = long; bytes = bytes } in
    let upper : index / fan a < more = above_within a (blocks_above a n) index within in
    let enough : more ≤ fan a ^ levels = one_level_less a (blocks_above a n) levels (one_level_less a n (suc levels) (has.enough)) in
    let place : digest_at a (block kept (index / fan a)) (index % fan a) ≡ digest_at a kept index =
    digest_at-block a kept (index / fan a) (index % fan a) (rest_below a index) ∙ ap (λ k. digest_at a kept k) (split_is a index) in (
      block kept (index / fan a),
      block-is kept more (index / fan a) blocks upper,
      vouches a h sized levels kept more (index / fan a) blocks upper enough,
      e ∙ sym place,
    )

below_upper : (a : Algorithm) (h : Hash) (levels : ℕ) (top : List ℕ) (i : ℕ) (b leaf : List ℕ)
    → IsBlock leaf → Vouches a h levels top (i / fan a) leaf → h b ≡ digest_at a leaf (i % fan a)
    → Vouches a h (suc levels) top i b
unfolding Vouches
below_upper a h levels top i b leaf is v e = (leaf, is, v, e)

-- what is kept of bytes has the digests of their lowest hash blocks
pub kept_digest : (a : Algorithm) (h : Hash) (sized : (m : List ℕ) → IsDigest a (h m)) (levels n : ℕ) (xs : List ℕ) (index : ℕ)
    → n ≤ fan a ^ suc levels → index < blocks_above a n
    → digest_at a (kept_of a h (suc levels) xs n) index ≡ h (block (above a h xs n) index)
unfolding digest_at
kept_digest a h sized zero n xs index enough within =
    let one : blocks_above a n ≤ 1 = one_block a (blocks_above a n) (one_level_less a n 0 enough) in
    let first : index ≡ 0 = omega arith in
    let size = (sized (above a h xs n)).whole in
    ap (λ k. take (digest_size a) (drop (digest_size a * k) (h (above a h xs n)))) first
    ∙ ap (λ k. take (digest_size a) (drop k (h (above a h xs n)))) (sym (none_yet a))
    ∙ take_all (digest_size a) (h (above a h xs n)) (omega arith)
    ∙ ap h (sym (block-only (above a h xs n) (blocks_above a n) index (blocks-above a h sized xs n) within one))
kept_digest a h sized (suc levels) n xs index enough within = digest_at-above a h sized (above a h xs n) (blocks_above a n) index within

-- a hash block of unmatched bytes is theirs
pub hash_block_is : (s : Seal) (sized : (m : List ℕ) → IsDigest s.algorithm (s.hash m)) (below : ℕ) (xs leaf : List ℕ) (index : ℕ)
    → HasLevels s.algorithm (blocks_of (length xs)) (suc below) → (u : IsUnmatched s xs)
    → index < blocks_above s.algorithm (blocks_of (length xs))
    → IsGiven s.tree (lowest_place s.algorithm (suc below) (blocks_of (length xs)) + 4096 * index) 4096 leaf
    → s.hash leaf ≡ s.hash (block (above s.algorithm s.hash (in_blocks xs) (blocks_of (length xs))) index)
    → leaf ≡ block (above s.algorithm s.hash (in_blocks xs) (blocks_of (length xs))) index
hash_block_is s sized below xs leaf index has u within g same =
    let a = s.algorithm in
    let n = blocks_of (length xs) in
    let right = block (above a s.hash (in_blocks xs) n) index in
    let levels : u.of.levels ≡ suc below = one_count a n (u.of.levels) (suc below) (u.of.has_levels) has in
    let size : length right ≡ 4096 =
    (block-is (above a s.hash (in_blocks xs) n) (blocks_above a n) index (blocks-above a s.hash sized (in_blocks xs) n) within).whole in
    let whole : filled right ≡ right = filled_whole right size in
    let only : leaf ≡ g.of = g.is ∙ filled_whole (g.of) (g.long) in
    let alone : IsAloneAt s.tree (lowest_place a (suc below) n + 4096 * index) s.hash right =
    subst (λ k. IsAloneAt s.tree (lowest_place a k n + 4096 * index) s.hash right) levels
    (u.hash_blocks (λ none. omega (arith, levels, none)) index within) in
    only ∙ alone.alone (g.of) (g.bytes) (g.long ∙ sym size) (g.given) (ap s.hash (sym g.is) ∙ same ∙ ap s.hash (sym whole))

pub leaf_kept : (s : Seal) (levels lowest : ℕ) (kept leaf : List ℕ) (j : ℕ) → levels ≢ 0 → IsOpened s levels lowest kept
    → j / fan s.algorithm < blocks_above s.algorithm (blocks_of s.size) → IsBlock leaf
    → IsGiven s.tree (lowest + 4096 * (j / fan s.algorithm)) 4096 leaf
    → s.hash leaf ≡ digest_at s.algorithm kept (j / fan s.algorithm) → IsLeaf s (first_under s.algorithm j) leaf
leaf_kept s zero lowest kept leaf j some o within is g e = absurd (some refl)
leaf_kept s (suc levels) lowest kept leaf j some o within is g e =
    let a = s.algorithm in
    let n = blocks_of s.size in
    let index = j / fan a in
    let upper = upper_vouched a s.hash (o.sized) levels n kept index leaf (o.has_levels) (o.long) (o.bytes) within e in
    let top = kept_root a s.hash (suc levels) kept n in
    record {
      long = is.whole;
      levels = suc levels;
      has_levels = o.has_levels;
      top = top;
      described = o.described;
      vouches = λ i b from less below same.
          below_upper a s.hash levels top i b leaf is
          (subst (λ k. Vouches a s.hash levels top k leaf) (sym (in_run a j i from less)) upper)
          (same ∙ ap (λ k. digest_at a leaf k) (in_place a j i from less));
      sized = λ xs u. (o.right xs u).0;
      right = λ xs u i from less below.
          let told = o.right xs u in
          let m = blocks_of (length xs) in
          let up = above a s.hash (in_blocks xs) m in
          let count : n ≡ m = ap (λ k. blocks_of k) (told.0) in
          let has : HasLevels a m (suc levels) = subst (λ k. HasLevels a k (suc levels)) count (o.has_levels) in
          let inside : index < blocks_above a m = subst (λ k. index < blocks_above a k) count within in
          let same : s.hash leaf ≡ s.hash (block up index) =
          e ∙ ap (λ l. digest_at a l index) (told.1) ∙ kept_digest a s.hash (o.sized) levels m (in_blocks xs) index (has.enough) inside in
          let place : lowest + 4096 * index ≡ lowest_place a (suc levels) m + 4096 * index =
          ap (λ k. k + 4096 * index) (o.place ∙ ap (λ k. lowest_place a (suc levels) k) count) in
          let found : leaf ≡ block up index =
          hash_block_is s (o.sized) levels xs leaf index has u inside (subst (λ k. IsGiven s.tree k 4096 leaf) place g) same in
          ap (λ k. digest_at a leaf k) (in_place a j i from less)
          ∙ ap (λ l. digest_at a l (i % fan a)) found
          ∙ digest_at-block a up index (i % fan a) (rest_below a i)
          ∙ ap (λ k. digest_at a up (fan a * k + i % fan a)) (sym (in_run a j i from less))
          ∙ ap (λ k. digest_at a up k) (split_is a i)
          ∙ digest_at-above a s.hash (o.sized) (in_blocks xs) m i (subst (λ k. i < k) count below);
    }
