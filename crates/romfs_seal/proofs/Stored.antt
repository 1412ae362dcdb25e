-- Where the levels of a tree are stored: the lowest (lowest_stored), and the one above it (upper_stored).
use Rattle.std.proofs.Common.{◌≡◌, ◌∙◌, sym, ap, ℕ, suc, ◌+◌, ◌*◌, List, ◌++◌, length, take, drop, arith, append_assoc}
use Rattle.std.proofs.lemmas.List.{take_at}
use Rattle.std.proofs.Math.Seq.{drop-append-add}
use Rattle.devices.specs.declared.algorithm.Algorithm.{Algorithm}
use Rattle.devices.specs.Tree.{Hash, IsDigest, block, blocks_above, above, tree, tree_blocks}
use Rattle.romfs_seal.proofs.Levels.{blocks-above}
use Rattle.romfs_seal.proofs.Filled.{length-tree}
use Rattle.devices.specs.Seal.{lowest_place}

-- what comes after this many bytes
behind : (front rest : List ℕ) (n k m : ℕ) → length front ≡ n → take m (drop (n + k) (front ++ rest)) ≡ take m (drop k rest)
behind front rest n k m long =
    ap (λ j. take m (drop (j + k) (front ++ rest))) (sym long) ∙ ap (λ l. take m l) (drop-append-add front rest k)

pub lowest_stored : (a : Algorithm) (h : Hash) (sized : (m : List ℕ) → IsDigest a (h m)) (levels : ℕ) (xs : List ℕ) (n i : ℕ)
    → take 4096 (drop (lowest_place a (suc levels) n + 4096 * i) (tree a h (suc levels) xs n)) ≡ block (above a h xs n) i
unfolding tree block
lowest_stored a h sized levels xs n i =
    let up = above a h xs n in
    let m = blocks_above a n in
    behind (tree a h levels up m) up (4096 * tree_blocks a levels m) (4096 * i) 4096 (length-tree a h sized levels up m)

pub upper_stored : (a : Algorithm) (h : Hash) (sized : (m : List ℕ) → IsDigest a (h m)) (levels : ℕ) (xs : List ℕ) (n : ℕ)
    → take (4096 * blocks_above a (blocks_above a n))
    (drop (4096 * tree_blocks a levels (blocks_above a (blocks_above a n))) (tree a h (suc (suc levels)) xs n))
    ≡ above a h (above a h xs n) (blocks_above a n)
unfolding tree
upper_stored a h sized levels xs n =
    let up = above a h xs n in
    let m = blocks_above a n in
    let place = 4096 * tree_blocks a levels (blocks_above a m) in
    let front = tree a h levels (above a h up m) (blocks_above a m) in
    let long = length-tree a h sized levels (above a h up m) (blocks_above a m) in
    let size = (blocks-above a h sized up m).whole in
    let none : place ≡ place + 0 = omega arith in
    ap (λ l. take (4096 * blocks_above a m) (drop place l)) (append_assoc front (above a h up m) up)
    ∙ ap (λ k. take (4096 * blocks_above a m) (drop k (front ++ (above a h up m ++ up)))) none
    ∙ behind front (above a h up m ++ up) place 0 (4096 * blocks_above a m) long
    ∙ take_at (above a h up m) up (4096 * blocks_above a m) size
