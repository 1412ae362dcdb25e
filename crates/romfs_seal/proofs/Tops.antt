-- Levels one above the other, and the digest at the top.
use Rattle.std.proofs.Common.{◌≡◌, ◌≢◌, ◌∙◌, sym, ap, ℕ, zero, suc, ◌+◌, ◌-◌, ◌*◌, List, [], ◌++◌, length, take, drop, replicate, refl, arith, add-one}
use Rattle.std.proofs.lemmas.List.{take_all}
use Rattle.devices.specs.declared.algorithm.Algorithm.{Algorithm}
use Rattle.devices.specs.Tree.{Hash, IsDigest, digest_size, block, digests, blocks_above, above, root, tree_blocks}
use Rattle.romfs_seal.proofs.Fans.{above_fits}
use Rattle.romfs_seal.proofs.Levels.{length-digests}

pub digests_more : (h : Hash) (xs : List ℕ) (n at size : ℕ) → at ≡ 4096 * n → size ≡ 4096
    → digests h xs (n + 1) ≡ digests h xs n ++ h (take size (drop at xs))
unfolding digests block
digests_more h xs n at size e f =
    ap (digests h xs) (add-one n) ∙ ap (λ k. digests h xs n ++ h (take 4096 (drop k xs))) (sym e)
    ∙ ap (λ k. digests h xs n ++ h (take k (drop at xs))) (sym f)

pub no_digests : (h : Hash) (xs : List ℕ) → digests h xs 0 ≡ []
unfolding digests
no_digests h xs = refl

pub above_is : (a : Algorithm) (h : Hash) (sized : (m : List ℕ) → IsDigest a (h m)) (xs : List ℕ) (n size len : ℕ) (found : List ℕ)
    → found ≡ digests h xs n → size ≡ 4096 * blocks_above a n → len ≡ length found
    → take size found ++ replicate (size - len) 0 ≡ above a h xs n
unfolding above
above_is a h sized xs n size len found e f l =
    let count : length found ≡ digest_size a * n = ap length e ∙ length-digests a h sized xs n in
    let fits = above_fits a n in
    let whole : take size found ≡ digests h xs n = take_all size found (omega arith) ∙ e in
    let pad : size - len ≡ 4096 * blocks_above a n - digest_size a * n = omega arith in
    ap (λ p. p ++ replicate (size - len) 0) whole ∙ ap (λ k. digests h xs n ++ replicate k 0) pad

pub root_none : (a : Algorithm) (h : Hash) (levels : ℕ) (xs : List ℕ) (n : ℕ) → levels ≡ 0 → h xs ≡ root a h levels xs n
unfolding root
root_none a h levels xs n e = ap (λ k. root a h k xs n) (sym e)

root_some : (a : Algorithm) (h : Hash) (levels : ℕ) (xs : List ℕ) (n : ℕ) → levels ≢ 0
    → root a h (levels - 1) (above a h xs n) (blocks_above a n) ≡ root a h levels xs n
unfolding root
root_some a h zero xs n some = absurd (some refl)
root_some a h (suc levels) xs n some =
    let e : suc levels - 1 ≡ levels = omega arith in
    ap (λ k. root a h k (above a h xs n) (blocks_above a n)) e

pub root_up : (a : Algorithm) (h : Hash) (levels : ℕ) (xs up : List ℕ) (n m : ℕ) → levels ≢ 0 → up ≡ above a h xs n → m ≡ blocks_above a n
    → root a h (levels - 1) up m ≡ root a h levels xs n
root_up a h levels xs up n m some e f =
    ap (λ l. root a h (levels - 1) l m) e ∙ ap (λ k. root a h (levels - 1) (above a h xs n) k) f ∙ root_some a h levels xs n some

pub tree_none : (a : Algorithm) (levels n : ℕ) → levels ≡ 0 → 0 ≡ tree_blocks a levels n
unfolding tree_blocks
tree_none a zero n none = refl
tree_none a (suc levels) n none = absurd (omega arith)

pub tree_some : (a : Algorithm) (levels n : ℕ) → levels ≢ 0
    → tree_blocks a (levels - 1) (blocks_above a n) + blocks_above a n ≡ tree_blocks a levels n
unfolding tree_blocks
tree_some a zero n some = absurd (some refl)
tree_some a (suc levels) n some =
    let e : suc levels - 1 ≡ levels = omega arith in
    ap (λ k. tree_blocks a k (blocks_above a n) + blocks_above a n) e
