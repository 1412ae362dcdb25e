-- Honest files: they are unmatched (honest_is), what is kept of them is their tree's (kept_honest), and no read of them fails.
use Rattle.std.proofs.Common.{◌≡◌, ◌≢◌, ◌∙◌, sym, ap, subst, ℕ, zero, suc, ◌+◌, ◌-◌, ◌*◌, ◌^◌, ◌<◌, ◌≤◌, List, length, take, drop, replicate, Result, Ok, Err, IfErr, OnErr, refl, arith}
use Rattle.std.proofs.lemmas.List.{take_all, length-replicate}
use Rattle.devices.specs.Given.{Given, these, Allows, IsShort}
use Rattle.devices.proofs.Held.{take_self}
use Rattle.devices.specs.declared.algorithm.Algorithm.{Algorithm}
use Rattle.devices.specs.Tree.{Hash, AreBytes, IsBlock, IsDigest, HasLevels, digest_size, fan, block, digest_at, blocks_above, above, root, root_hash, tree, tree_blocks}
use Rattle.devices.specs.File.{blocks_of, in_blocks, filled, descriptor}
use Rattle.romfs_seal.proofs.Fans.{above_within, one_level_less, one_block, one_count, many_blocks}
use Rattle.romfs_seal.proofs.Levels.{block-is, block-only, blocks-above}
use Rattle.romfs_seal.proofs.FileBlocks.{root_some}
use Rattle.romfs_seal.proofs.Filled.{filled_whole, filled-is, block-filled, length-block, length-tree, only-filled}
use Rattle.devices.specs.Seal.{Seal, lowest_place, kept_len, kept_root, kept_of, IsGiven, MayBeOnly, MayBeKept, IsTop}
use Rattle.devices.specs.Read.{IsAloneAt, IsUnmatched}
use Rattle.romfs_seal.specs.Kept.{IsOpened, IsLeaf}
use Rattle.devices.specs.Honest.{IsHonest, IsTampered}
use Rattle.romfs_seal.proofs.Leaves.{kept_digest}
use Rattle.romfs_seal.proofs.Parts.{part_of}
use Rattle.romfs_seal.proofs.Stored.{lowest_stored, upper_stored}

-- ---- what is held is given

given_is : (source : Given) (ys c : List ℕ) (place size : ℕ) → source ≡ these ys → length c ≡ size → Allows source place c
    → c ≡ take size (drop place ys)
given_is source ys c place size is long given =
    subst (λ s. Allows s place c) is given ∙ ap (λ k. take k (drop place ys)) long

alone_held : (source : Given) (ys : List ℕ) (place : ℕ) (h : Hash) (b : List ℕ) → source ≡ these ys → take (length b) (drop place ys) ≡ b
    → IsAloneAt source place h b
alone_held source ys place h b is same = record {
  alone = λ c bytes long given e. given_is source ys c place (length b) is long given ∙ same;
}

whole_given : (source : Given) (ys b : List ℕ) (place : ℕ) → source ≡ these ys → IsGiven source place 4096 b → b ≡ take 4096 (drop place ys)
whole_given source ys b place is g = g.is ∙ filled_whole (g.of) (g.long) ∙ given_is source ys (g.of) place 4096 is (g.long) (g.given)

-- ---- what is kept

no_bytes : (xs : List ℕ) → length xs ≡ 0 → (a : Algorithm) (h : Hash) (n : ℕ) → n ≡ blocks_of (length xs)
    → replicate (digest_size a) 0 ≡ root_hash a h 0 (in_blocks xs) n
unfolding root_hash
no_bytes xs none a h zero count = refl
no_bytes xs none a h (suc n) count = absurd (omega arith)

only_honest : (s : Seal) (xs kept : List ℕ) (size : ℕ) → size ≡ length xs → s.image ≡ these xs → blocks_of (length xs) ≤ 1
    → MayBeOnly s size kept → kept ≡ root_hash s.algorithm s.hash 0 (in_blocks xs) (blocks_of (length xs))
unfolding root
only_honest s xs kept zero told is one may = may ∙ no_bytes xs (sym told) s.algorithm s.hash (blocks_of (length xs)) refl
only_honest s xs kept (suc k) told is one may =
    let g = may.1 in
    let n = blocks_of (length xs) in
    let some : 0 < length xs = omega (arith, told) in
    let found : g.of ≡ xs =
    given_is s.image xs (g.of) 0 (suc k) is (g.long) (g.given) ∙ ap (λ j. take j xs) told ∙ take_all (length xs) xs (omega arith) in
    may.2 ∙ ap s.hash (g.is ∙ ap (λ l. filled l) found ∙ sym (only-filled xs some one))
    ∙ sym (root_some s.algorithm s.hash 0 (in_blocks xs) n (omega arith))

some_above : (a : Algorithm) (n : ℕ) → 0 < n → 0 < blocks_above a n
some_above a n some = (let e = above_within a n 0 some in omega (arith, e))

pub kept_honest : (s : Seal) (sized : (m : List ℕ) → IsDigest s.algorithm (s.hash m)) (xs : List ℕ) (levels : ℕ) (kept : List ℕ)
    → IsHonest s xs → HasLevels s.algorithm (blocks_of s.size) levels → MayBeKept s levels kept
    → kept ≡ kept_of s.algorithm s.hash levels (in_blocks xs) (blocks_of (length xs))
unfolding tree_blocks
kept_honest s sized xs zero kept o has may =
    let count : blocks_of s.size ≡ blocks_of (length xs) = ap (λ k. blocks_of k) (o.size) in
    let one = one_block s.algorithm (blocks_of (length xs)) (subst (λ k. k ≤ fan s.algorithm ^ 0) count (has.enough)) in
    only_honest s xs kept s.size (o.size) (o.image_held) one may
kept_honest s sized xs (suc zero) kept o has may =
    let a = s.algorithm in
    let n = blocks_of (length xs) in
    let bs = in_blocks xs in
    let count : blocks_of s.size ≡ n = ap (λ k. blocks_of k) (o.size) in
    let here : HasLevels a n 1 = subst (λ k. HasLevels a k 1) count has in
    let levels : o.of.levels ≡ 1 = one_count a n (o.of.levels) 1 (o.of.has_levels) here in
    let many = many_blocks a n 0 here in
    let upper : blocks_above a n ≤ 1 = one_block a (blocks_above a n) (one_level_less a n 0 (here.enough)) in
    let held_is : s.tree ≡ these (tree a s.hash 1 bs n) = o.tree_held ∙ ap (λ k. these (tree a s.hash k bs n)) levels in
    let found : may.0 ≡ block (above a s.hash bs n) 0 =
    whole_given s.tree (tree a s.hash 1 bs n) (may.0) 0 held_is (may.1) ∙ lowest_stored a s.hash sized 0 bs n 0 in
    may.2 ∙ ap s.hash (found ∙ block-only (above a s.hash bs n) (blocks_above a n) 0 (blocks-above a s.hash sized bs n)
    (some_above a n (omega arith)) upper)
kept_honest s sized xs (suc (suc below)) kept o has may =
    let a = s.algorithm in
    let n = blocks_of (length xs) in
    let bs = in_blocks xs in
    let count : blocks_of s.size ≡ n = ap (λ k. blocks_of k) (o.size) in
    let here : HasLevels a n (suc (suc below)) = subst (λ k. HasLevels a k (suc (suc below))) count has in
    let levels : o.of.levels ≡ suc (suc below) = one_count a n (o.of.levels) (suc (suc below)) (o.of.has_levels) here in
    let held_is : s.tree ≡ these (tree a s.hash (suc (suc below)) bs n) = o.tree_held ∙ ap (λ k. these (tree a s.hash k bs n)) levels in
    let long : length kept ≡ 4096 * blocks_above a (blocks_above a n) = may.0 ∙ ap (λ k. 4096 * blocks_above a (blocks_above a k)) count in
    let given : Allows s.tree (4096 * tree_blocks a below (blocks_above a (blocks_above a n))) kept =
    subst (λ k. Allows s.tree (4096 * tree_blocks a below (blocks_above a (blocks_above a k))) kept) count (may.2) in
    given_is s.tree (tree a s.hash (suc (suc below)) bs n) kept (4096 * tree_blocks a below (blocks_above a (blocks_above a n)))
    (4096 * blocks_above a (blocks_above a n)) held_is long given
    ∙ upper_stored a s.hash sized below bs n

-- ---- what is honest is unmatched

tree_stored : (a : Algorithm) (h : Hash) (sized : (m : List ℕ) → IsDigest a (h m)) (levels : ℕ) (xs : List ℕ) (n i : ℕ) → levels ≢ 0
    → take 4096 (drop (lowest_place a levels n + 4096 * i) (tree a h levels xs n)) ≡ block (above a h xs n) i
tree_stored a h sized zero xs n i some = absurd (some refl)
tree_stored a h sized (suc levels) xs n i some = lowest_stored a h sized levels xs n i

block_held : (xs : List ℕ) (i : ℕ) → take (length (block xs i)) (drop (4096 * i) xs) ≡ block xs i
unfolding block
block_held xs i = sym (take_self 4096 (drop (4096 * i) xs))

pub honest_is : (s : Seal) (sized : (m : List ℕ) → IsDigest s.algorithm (s.hash m)) (xs : List ℕ) → IsHonest s xs → IsUnmatched s xs
honest_is s sized xs o =
    let a = s.algorithm in
    let n = blocks_of (length xs) in
    let bs = in_blocks xs in
    record {
      of = o.of;
      top = λ levels kept has may e. (o.size, kept_honest s sized xs levels kept o has may);
      blocks = λ i below. alone_held s.image xs (4096 * i) s.hash (block xs i) (o.image_held) (block_held xs i);
      hash_blocks = λ some i within.
          let place = lowest_place a o.of.levels n + 4096 * i in
          let size : length (block (above a s.hash bs n) i) ≡ 4096 =
          (block-is (above a s.hash bs n) (blocks_above a n) i (blocks-above a s.hash sized bs n) within).whole in
          alone_held s.tree (tree a s.hash o.of.levels bs n) place s.hash (block (above a s.hash bs n) i) (o.tree_held)
          (ap (λ k. take k (drop place (tree a s.hash o.of.levels bs n))) size ∙ tree_stored a s.hash sized (o.of.levels) bs n i some);
    }

-- ---- the digest

root_of_kept : (a : Algorithm) (h : Hash) (levels : ℕ) (xs : List ℕ) (n : ℕ) → HasLevels a n levels
    → kept_root a h levels (kept_of a h levels xs n) n ≡ root_hash a h levels xs n
unfolding root
root_of_kept a h zero xs n has = refl
root_of_kept a h (suc zero) xs n has =
    let many = many_blocks a n 0 has in
    sym (root_some a h 1 xs n (omega arith))
root_of_kept a h (suc (suc levels)) xs n has =
    let many = many_blocks a n (suc levels) has in
    sym (root_some a h (suc (suc levels)) xs n (omega arith))

pub kept_other : (s : Seal) (sized : (m : List ℕ) → IsDigest s.algorithm (s.hash m)) (levels : ℕ) (kept : List ℕ)
    → HasLevels s.algorithm (blocks_of s.size) levels → MayBeKept s levels kept
    → (IsTop s levels kept → ⊥) → IsTampered s
kept_other s sized levels kept has may other = record {
  no = λ xs o.
      let a = s.algorithm in
      let n = blocks_of (length xs) in
      let bs = in_blocks xs in
      let count : blocks_of s.size ≡ n = ap (λ k. blocks_of k) (o.size) in
      let here : HasLevels a n levels = subst (λ k. HasLevels a k levels) count has in
      let same : o.of.levels ≡ levels = one_count a n (o.of.levels) levels (o.of.has_levels) here in
      let top : kept_root a s.hash levels kept (blocks_of s.size) ≡ root_hash a s.hash o.of.levels bs n =
      ap (λ k. kept_root a s.hash levels kept k) count
      ∙ ap (λ l. kept_root a s.hash levels l n) (kept_honest s sized xs levels kept o has may)
      ∙ root_of_kept a s.hash levels bs n here ∙ ap (λ k. root_hash a s.hash k bs n) (sym same) in
      other (ap (λ k. s.hash (descriptor a k (kept_root a s.hash levels kept (blocks_of s.size)))) (o.size)
      ∙ ap (λ r. s.hash (descriptor a (length xs) r)) top ∙ o.of.digest);
}

pub too_long : (s : Seal) → 2 ^ 63 ≤ s.size → IsTampered s
too_long s long = record { no = λ xs o. (let small = o.of.small in let e = o.size in omega (arith, small, e, long)) }

-- ---- reads that fall short

short : (known : Given) (ys : List ℕ) (place size : ℕ) → known ≡ these ys → place + size ≤ length ys → IsShort known place size → ⊥
short known ys place size is fits lacks = (let less : length ys < place + size = subst (λ k. IsShort k place size) is lacks in omega arith)

pub image_short : (s : Seal) (place count : ℕ) → place + count ≤ s.size → IsShort s.image place count → IsTampered s
image_short s place count fits lacks = record {
  no = λ xs o. short s.image xs place count (o.image_held) (let e = o.size in omega (arith, e, fits)) lacks;
}

-- this many blocks of a tree from a place on
pub tree_short : (s : Seal) (sized : (m : List ℕ) → IsDigest s.algorithm (s.hash m)) (levels place count : ℕ)
    → HasLevels s.algorithm (blocks_of s.size) levels → place + count ≤ 4096 * tree_blocks s.algorithm levels (blocks_of s.size)
    → IsShort s.tree place count → IsTampered s
tree_short s sized levels place count has fits lacks = record {
  no = λ xs o.
      let a = s.algorithm in
      let n = blocks_of (length xs) in
      let told : blocks_of s.size ≡ n = ap (λ k. blocks_of k) (o.size) in
      let here : HasLevels a n levels = subst (λ k. HasLevels a k levels) told has in
      let same : o.of.levels ≡ levels = one_count a n (o.of.levels) levels (o.of.has_levels) here in
      let long = length-tree a s.hash sized (o.of.levels) (in_blocks xs) n in
      let size : 4096 * tree_blocks a levels (blocks_of s.size) ≡ 4096 * tree_blocks a o.of.levels n =
      ap (λ k. 4096 * tree_blocks a levels k) told ∙ ap (λ k. 4096 * tree_blocks a k n) (sym same) in
      short s.tree (tree a s.hash o.of.levels (in_blocks xs) n) place count (o.tree_held) (omega arith) lacks;
}

lowest_in : (a : Algorithm) (levels n index : ℕ) → levels ≢ 0 → index < blocks_above a n
    → lowest_place a levels n + 4096 * index + 4096 ≤ 4096 * tree_blocks a levels n
unfolding tree_blocks
lowest_in a zero n index some within = absurd (some refl)
lowest_in a (suc levels) n index some within = omega arith

pub leaf_short : (s : Seal) (levels lowest : ℕ) (kept : List ℕ) (index : ℕ) → levels ≢ 0 → IsOpened s levels lowest kept
    → index < blocks_above s.algorithm (blocks_of s.size) → IsShort s.tree (lowest + 4096 * index) 4096 → IsTampered s
leaf_short s levels lowest kept index some o within lacks =
    let inside = lowest_in s.algorithm levels (blocks_of s.size) index some within in
    let place = o.place in
    tree_short s (o.sized) levels (lowest + 4096 * index) 4096 (o.has_levels) (omega (arith, inside, place)) lacks

-- ---- reads of something else

pub leaf_other : (s : Seal) (levels lowest : ℕ) (kept leaf : List ℕ) (index : ℕ) → levels ≢ 0 → IsOpened s levels lowest kept
    → index < blocks_above s.algorithm (blocks_of s.size) → IsGiven s.tree (lowest + 4096 * index) 4096 leaf
    → s.hash leaf ≢ digest_at s.algorithm kept index → IsTampered s
leaf_other s zero lowest kept leaf index some op within g other = absurd (some refl)
leaf_other s (suc below) lowest kept leaf index some op within g other = record {
  no = λ xs o.
      let a = s.algorithm in
      let n = blocks_of (length xs) in
      let bs = in_blocks xs in
      let told = op.right xs (honest_is s (op.sized) xs o) in
      let count : blocks_of s.size ≡ n = ap (λ k. blocks_of k) (o.size) in
      let here : HasLevels a n (suc below) = subst (λ k. HasLevels a k (suc below)) count (op.has_levels) in
      let levels : o.of.levels ≡ suc below = one_count a n (o.of.levels) (suc below) (o.of.has_levels) here in
      let inside : index < blocks_above a n = subst (λ k. index < blocks_above a k) count within in
      let place : lowest + 4096 * index ≡ lowest_place a (suc below) n + 4096 * index =
      ap (λ k. k + 4096 * index) (op.place ∙ ap (λ k. lowest_place a (suc below) k) count) in
      let held_is : s.tree ≡ these (tree a s.hash (suc below) bs n) = o.tree_held ∙ ap (λ k. these (tree a s.hash k bs n)) levels in
      let found : leaf ≡ block (above a s.hash bs n) index =
      whole_given s.tree (tree a s.hash (suc below) bs n) leaf (lowest_place a (suc below) n + 4096 * index) held_is
      (subst (λ k. IsGiven s.tree k 4096 leaf) place g) ∙ lowest_stored a s.hash (op.sized) below bs n index in
      other (ap s.hash found ∙ sym (kept_digest a s.hash (op.sized) below n bs index (here.enough) inside)
      ∙ ap (λ l. digest_at a l index) (sym (told.1)));
}

pub block_other : (s : Seal) (sized : (m : List ℕ) → IsDigest s.algorithm (s.hash m)) (first : ℕ) (leaf : List ℕ) (i : ℕ) (b : List ℕ)
    → IsLeaf s first leaf → first ≤ i → i < first + fan s.algorithm → i < blocks_of s.size → IsGiven s.image (4096 * i) (part_of s.size i) b
    → s.hash b ≢ digest_at s.algorithm leaf (i - first) → IsTampered s
block_other s sized first leaf i b leaf_is from less below g other = record {
  no = λ xs o.
      let u = honest_is s sized xs o in
      let inside : i < blocks_of (length xs) = subst (λ k. i < blocks_of k) (o.size) below in
      let long : length (g.of) ≡ length (block xs i) = g.long ∙ ap (λ k. part_of k i) (o.size) ∙ sym (length-block xs i) in
      let found : g.of ≡ block xs i =
      given_is s.image xs (g.of) (4096 * i) (length (block xs i)) (o.image_held) long (g.given) ∙ block_held xs i in
      other (ap s.hash (g.is ∙ ap (λ l. filled l) found ∙ sym (block-filled xs i (o.of.bytes) inside))
      ∙ sym (leaf_is.right xs u i from less below));
}

-- ---- what any fault is

pub any_err : {X E : Type 0} (r : Result X E) {P : E → Type 0} → ((e : E) → P e) → IfErr r P
any_err (Ok x) each = tt
any_err (Err e) each = each e

pub first_short : (s : Seal) (sized : (m : List ℕ) → IsDigest s.algorithm (s.hash m)) → HasLevels s.algorithm (blocks_of s.size) 1
    → IsShort s.tree 0 4096 → IsTampered s
unfolding tree_blocks
first_short s sized has lacks =
    let a = s.algorithm in
    let many = many_blocks a (blocks_of s.size) 0 has in
    let some = some_above a (blocks_of s.size) (omega (arith, many)) in
    tree_short s sized 1 0 4096 has (omega (arith, some)) lacks

pub upper_short : (s : Seal) (sized : (m : List ℕ) → IsDigest s.algorithm (s.hash m)) (levels : ℕ) → 2 ≤ levels
    → HasLevels s.algorithm (blocks_of s.size) levels
    → IsShort s.tree (4096 * tree_blocks s.algorithm (levels - 2) (blocks_above s.algorithm (blocks_above s.algorithm (blocks_of s.size))))
    (4096 * blocks_above s.algorithm (blocks_above s.algorithm (blocks_of s.size))) → IsTampered s
unfolding tree_blocks
upper_short s sized zero many has lacks = absurd (omega arith)
upper_short s sized (suc zero) many has lacks = absurd (omega arith)
upper_short s sized (suc (suc below)) many has lacks =
    let a = s.algorithm in
    let m = blocks_above a (blocks_above a (blocks_of s.size)) in
    let e : suc (suc below) - 2 ≡ below = omega arith in
    tree_short s sized (suc (suc below)) (4096 * tree_blocks a below m) (4096 * m) has (omega arith)
    (subst (λ k. IsShort s.tree (4096 * tree_blocks a k m) (4096 * m)) e lacks)

pub upper_kept : (s : Seal) (levels : ℕ) (kept : List ℕ) → 2 ≤ levels
    → length kept ≡ 4096 * blocks_above s.algorithm (blocks_above s.algorithm (blocks_of s.size)) → AreBytes kept
    → Allows s.tree
    (4096 * tree_blocks s.algorithm (levels - 2) (blocks_above s.algorithm (blocks_above s.algorithm (blocks_of s.size)))) kept
    → MayBeKept s levels kept
upper_kept s zero kept many long bytes given = absurd (omega arith)
upper_kept s (suc zero) kept many long bytes given = absurd (omega arith)
upper_kept s (suc (suc below)) kept many long bytes given =
    let a = s.algorithm in
    let m = blocks_above a (blocks_above a (blocks_of s.size)) in
    let e : suc (suc below) - 2 ≡ below = omega arith in (
      long,
      bytes,
      subst (λ k. Allows s.tree (4096 * tree_blocks a k m) kept) e given,
    )

only_long : (s : Seal) (sized : (m : List ℕ) → IsDigest s.algorithm (s.hash m)) (size : ℕ) (kept : List ℕ)
    → MayBeOnly s size kept → length kept ≡ digest_size s.algorithm
only_long s sized zero kept may = ap length may ∙ length-replicate {A = ℕ} (digest_size s.algorithm) 0
only_long s sized (suc k) kept may = ap length (may.2) ∙ (sized (may.0)).whole

pub kept_long : (s : Seal) (sized : (m : List ℕ) → IsDigest s.algorithm (s.hash m)) (levels : ℕ) (kept : List ℕ)
    → MayBeKept s levels kept → length kept ≡ kept_len s.algorithm levels (blocks_of s.size)
kept_long s sized zero kept may = only_long s sized s.size kept may
kept_long s sized (suc zero) kept may = ap length (may.2) ∙ (sized (may.0)).whole
kept_long s sized (suc (suc levels)) kept may = may.0

pub any_on : {X E T : Type 0} (r : Result X E) → T → OnErr r T
any_on (Ok x) t = tt
any_on (Err e) t = t

pub given_block : (source : Given) (place : ℕ) (b : List ℕ) → IsGiven source place 4096 b → IsBlock b
given_block source place b g = subst IsBlock (sym g.is) (filled-is (g.of) (g.bytes) (let l = g.long in omega (arith, l)))
